use Rattle.test_plain.proofs.Common.{◌≡◌, drop, filter_map, item_numbered, deposit_in}
use Rattle.test_plain.proofs.reading.deposit_numbered.Given as goal

abbrev pub invariant-loop-change : goal.invariant-loop-change
invariant-loop-change l = item_numbered (filter_map deposit_in (drop l.change-index l.changes)) l.left ≡ item_numbered (filter_map deposit_in l.changes) l.number
