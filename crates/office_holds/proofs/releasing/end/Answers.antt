use Rattle.office_holds.proofs.Common.{rules, w64, negsuc, Some, pos, SFits, to_z-of_z, epoch_day, with_released, inside_then, counted_over, held_target, changes_by, changes_then}
use Rattle.office_holds.proofs.releasing.end.Goals as goal

pub returns-clause-inside : goal.returns-clause-inside
returns-clause-inside g c = inside_then c.in_ok-end_hold.ensures.inside c.count_over.ensures.inside

pub returns-clause-changes : goal.returns-clause-changes
returns-clause-changes g c =
    let a = c.args in
    let end_hold = c.in_ok-end_hold.ensures in
    let fits : SFits w64 c.stored_day.result = search rules in
    let write = with_released (pos a.number) (epoch_day a.day) in
    let ended = rw (to_z-of_z w64 c.stored_day.result fits, c.stored_day.ensures) at end_hold.becomes in
    changes_then end_hold.inside c.count_over.ensures.inside (λ t. Some (write t)) (counted_over (held_target a.target) (negsuc 0))
    (changes_by end_hold.inside write ended end_hold.contents) c.count_over.ensures.changes
