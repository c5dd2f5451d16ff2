use Rattle.office_holds.proofs.Lemmas.{rules, w64, pos, Some, SFits, to_z-of_z, with_hold, inside_then, counted_over, new_hold, held_target, changes_by, changes_then, put_row}
use Rattle.office_holds.proofs.placing.place_hold.Goals as goal

pub returns-clause-inside : goal.returns-clause-inside
returns-clause-inside g c = inside_then c.in_ok-put_hold.ensures.inside c.count_over.ensures.inside

pub returns-clause-changes : goal.returns-clause-changes
returns-clause-changes g c =
    let a = c.args in
    let put_hold = c.in_ok-put_hold.ensures in
    let fits : SFits w64 c.stored_day.result = search rules in
    let row = new_hold a.number (held_target a.target) a.matter.now a.day in
    let put = rw (to_z-of_z w64 c.stored_day.result fits, c.stored_day.ensures, put_row a.number a.day a.target a.matter.now) at put_hold.becomes in
    changes_then put_hold.inside c.count_over.ensures.inside (λ t. Some (with_hold row t)) (counted_over (held_target a.target) (pos 1))
    (changes_by put_hold.inside (with_hold row) put put_hold.contents) c.count_over.ensures.changes
