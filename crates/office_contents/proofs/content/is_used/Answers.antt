use Rattle.office_contents.proofs.Lemmas.{◌≡◌, sym, ap, not, ◌∙◌, ◌==◌, length, rules, vec_len, w64, to_z-of_z, any_is}
use Rattle.office_contents.proofs.content.is_used.Goals as goal

pub returns-clause-found : goal.returns-clause-found
returns-clause-found g c clean office =
    let found = rw (to_z-of_z w64 c.args.id c.ranges.id) at (c.in_ok-rows.ensures.found clean office) in
    let size : vec_len c.in_ok-rows.rows ≡ length c.in_ok-rows.rows.items = search rules in
    (found.0, found.1 ∙ any_is c.in_ok-rows.rows.items ∙ sym (ap not (c.is_empty.ensures ∙ ap (λ n. n == 0) size)))
