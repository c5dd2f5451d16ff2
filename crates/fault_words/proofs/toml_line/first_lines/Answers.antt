use Rattle.fault_words.proofs.Lemmas.{rules, ◌≡◌, ◌∙◌, ◌++◌, drop, take, ap, sym, append-nil, first_lines, first_lines-zero}
use Rattle.fault_words.proofs.toml_line.first_lines.Goals as goal

pub returns-then-left-eq0 : goal.returns-then-left-eq0
returns-then-left-eq0 c =
    let empty : c.loop-offset.left ≡ 0 = search rules in
    let before = take c.loop-offset.offset c.args.bytes.now in
    let rest = drop c.loop-offset.offset c.args.bytes.now in
    sym (append-nil before)
    ∙ ap (λ more. before ++ more) (sym (ap (λ left. first_lines left rest) empty ∙ first_lines-zero rest))
    ∙ c.loop-offset.invariant
