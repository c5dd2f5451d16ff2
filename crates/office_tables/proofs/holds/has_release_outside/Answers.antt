use Rattle.office_tables.proofs.Lemmas.{pos, sym, subst, true, Ok, rules, w64, to_z-of_z, clean_first, inside_after, inside_failed, IsOffice, gathers_outside}
use Rattle.office_tables.proofs.holds.has_release_outside.Goals as goal

pub returns-clause-found : goal.returns-clause-found
returns-clause-found g c clean office =
    let a = c.args in
    let clean_two = clean_first c.has_release-3.ensures.inside.stays clean in
    let clean_one = clean_first c.has_release-2.ensures.inside.stays clean_two in
    let from = to_z-of_z w64 a.first c.ranges.first in
    let to = to_z-of_z w64 a.last c.ranges.last in
    let on = rw (from, to) at (c.in_ok-on_deposit.ensures.found clean_one office) in
    let office_one = subst IsOffice (sym on.0) office in
    let within = rw (from, to) at (c.in_ok-on_collection.ensures.found clean_two office_one) in
    let of_class = rw (from, to) at (c.in_ok-on_class.ensures.found clean (subst IsOffice (sym within.0) office_one)) in
    gathers_outside _ _ _ on.0 within.0 a.first a.last (pos a.deposit) a.collection.now a.class.now
    c.in_ok-on_deposit.on_deposit c.in_ok-on_collection.on_collection c.in_ok-on_class.on_class on.1 within.1 of_class.1

pub returns-clause-inside : goal.returns-clause-inside
returns-clause-inside g c = inside_after (inside_after c.in_ok-on_deposit.ensures.inside c.in_ok-on_collection.ensures.inside (Ok true) tt) c.in_ok-on_class.ensures.inside _ tt

pub returns-in_err-on_class-clause-inside : goal.returns-in_err-on_class-clause-inside
returns-in_err-on_class-clause-inside g c = inside_failed (inside_after c.in_ok-on_deposit.ensures.inside c.in_ok-on_collection.ensures.inside (Ok true) tt) c.has_release-3.ensures.inside _ (search rules) (search rules)

pub returns-in_err-on_collection-clause-inside : goal.returns-in_err-on_collection-clause-inside
returns-in_err-on_collection-clause-inside g c = inside_failed c.in_ok-on_deposit.ensures.inside c.has_release-2.ensures.inside _ (search rules) (search rules)
