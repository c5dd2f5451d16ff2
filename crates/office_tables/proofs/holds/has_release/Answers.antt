use Rattle.office_tables.proofs.Lemmas.{ap, length, not, rules, sym, w64, ◌==◌, ◌≡◌, ◌∙◌, to_z-of_z, any_is}
use Rattle.office_tables.proofs.holds.has_release.Goals as goal

pub returns-clause-found : goal.returns-clause-found
returns-clause-found g c clean office =
    let first = to_z-of_z w64 c.args.first c.ranges.first in
    let last = to_z-of_z w64 c.args.last c.ranges.last in
    let found = rw (first, last) at (c.in_ok-rows.ensures.found clean office) in
    let none : c.is_empty.result ≡ (length c.in_ok-rows.rows.items == 0) = search rules in
    (found.0, ap not none ∙ sym (any_is c.in_ok-rows.rows.items) ∙ sym found.1)
