use Rattle.office_tables.proofs.Lemmas.{on_ok_weaker, schema_at, Third, Fourth, builds_hold_4}
use Rattle.office_tables.proofs.MovedHolds.{copies_holds, empties_holds, holds_moved, new_is_empty}
use Rattle.office_tables.proofs.moving.move_holds.Goals as goal

pub returns-clause-moved : goal.returns-clause-moved
returns-clause-moved g c clean rows was =
    on_ok_weaker c.take_over.result (λ it. let grown = it.4 (schema_at Third) (schema_at Fourth) builds_hold_4 was.office.whole in
    let copied = copies_holds _ _ _ (grown.whole was.office.whole) (new_is_empty _ _ grown) it.5 in
    holds_moved _ _ grown rows _ _ was copied (empties_holds _ _ _ copied.whole it.6)) (c.take_over.ensures.ran clean)
