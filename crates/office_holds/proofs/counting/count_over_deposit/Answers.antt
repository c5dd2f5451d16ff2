use Rattle.office_holds.proofs.Common.{rules, w64, sym, Some, pos, SFits, to_z-of_z, on_ok_weaker, with_holds, clean_first, inside_then, counted_on, office_still, changed_after, changed_as, changes_by}
use Rattle.office_holds.proofs.counting.count_over_deposit.Goals as goal

pub returns-clause-inside : goal.returns-clause-inside
returns-clause-inside g c = inside_then c.in_ok-holds.ensures.inside c.set_holds.ensures.inside

pub returns-clause-changes : goal.returns-clause-changes
returns-clause-changes g c clean office =
    let a = c.args in
    let holds = c.in_ok-holds.holds in
    let fits : SFits w64 holds = search rules in
    let read = rw (to_z-of_z w64 a.by c.ranges.by) at (c.in_ok-holds.ensures.reads (clean_first c.set_holds.ensures.inside.stays clean) office) in
    let set = rw (to_z-of_z w64 holds fits) at c.set_holds.ensures.becomes in
    let write = with_holds (pos a.number) holds in
    on_ok_weaker c.set_holds.result (λ changed. changed_as (λ t. Some (write t)) (counted_on a.number a.by) (sym read.1) (changed_after (λ t. Some (write t)) read.0 changed))
    (changes_by c.set_holds.ensures.inside write set c.set_holds.ensures.contents clean (office_still read.0 office))
