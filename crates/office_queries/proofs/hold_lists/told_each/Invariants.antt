use Rattle.office_queries.proofs.Common.{Ok, ◌≡◌, Some, map, pos, take, HasCleanDisk, state, GoesOnInTurn, IsOffice, tables_of, told_hold, all_told}
use Rattle.office_queries.proofs.hold_lists.told_each.Given as goal

abbrev pub invariant-loop-number : goal.invariant-loop-number
invariant-loop-number g l =
    let old = state g.S.Store l.fn.tx.conn.now in
    let now = state g.S.Store l.tx.conn.now in
    record {
      inside : GoesOnInTurn {T = Unit {0}} g.S.Store l.fn.tx.conn l.tx.conn (Ok tt);
      reads : HasCleanDisk now → IsOffice old.now → (now.now ≡ old.now) × (all_told (told_hold (tables_of old.now)) (map pos (take l.number-index l.numbers)) ≡ Some l.told.items);
    }
