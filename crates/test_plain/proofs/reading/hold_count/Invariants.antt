use Rattle.test_plain.proofs.Common.{◌≡◌, ◌+◌, drop, length, filter_map, hold_in}
use Rattle.test_plain.proofs.reading.hold_count.Given as goal

abbrev pub invariant-loop-change : goal.invariant-loop-change
invariant-loop-change l = l.count + length (filter_map hold_in (drop l.change-index l.changes)) ≡ length (filter_map hold_in l.changes)
