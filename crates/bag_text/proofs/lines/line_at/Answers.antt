use Rattle.bag_text.proofs.Lemmas.{◌≡◌, ◌∙◌, List, ℕ, ap, arith, false, length, sym, ◌==◌, slice_get, nat_tests, no_lines}
use Rattle.bag_text.proofs.lines.line_at.Goals as goal

pub returns-clause-found : goal.returns-clause-found
returns-clause-found c = λ line is.
    let none : length c.loop-rest.rest.now ≡ 0 = grind (arith, nat_tests) in
    let left = sym (ap (λ (ls : List (List ℕ)). slice_get ls c.loop-rest.before) (no_lines c.loop-rest.rest.now none)) in
    left ∙ c.loop-rest.invariant.1 ∙ is.1

pub returns-clause-exact : goal.returns-clause-exact
returns-clause-exact c =
    let none : length c.loop-rest.rest.now ≡ 0 = grind (arith, nat_tests) in
    let left = sym (ap (λ (ls : List (List ℕ)). slice_get ls c.loop-rest.before) (no_lines c.loop-rest.rest.now none)) in
    let counted = c.loop-rest.invariant.0 in
    let some : (c.args.number == 0) ≡ false = grind (arith, nat_tests) in
    rw some (left ∙ c.loop-rest.invariant.1)
