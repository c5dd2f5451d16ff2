use Rattle.test_plain.proofs.Common.{◌≡◌, ◌+◌, drop, length, filter_map, deposit_in}
use Rattle.test_plain.proofs.reading.deposit_count.Given as goal

abbrev pub invariant-loop-change : goal.invariant-loop-change
invariant-loop-change l = l.count + length (filter_map deposit_in (drop l.change-index l.changes)) ≡ length (filter_map deposit_in l.changes)
