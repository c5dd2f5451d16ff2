use Rattle.bag_text.proofs.Lemmas.{◌≡◌, refl, arith, length, nat_tests, no_lines}
use Rattle.bag_text.proofs.declaration.two_lines.Goals as goal

pub returns-then-is_empty-3 : goal.returns-then-is_empty-3
returns-then-is_empty-3 c =
    let none : length c.split_line-2.result.1.now ≡ 0 = grind (arith, nat_tests) in
    rw (c.split_line.ensures.lines, c.split_line-2.ensures.lines, no_lines c.split_line-2.result.1.now none) refl
