use Rattle.test_plain.proofs.Common.{◌≡◌, ◌+◌, ◌-◌, ◌++◌, filter, ◌&&◌, range_with_len, is_live, covers, live_holds}
use Rattle.test_plain.proofs.reading.live_holds.Given as goal

abbrev pub invariant-loop-hold : goal.invariant-loop-hold
invariant-loop-hold l = l.found.items ++ filter (λ k. is_live l.office k && covers l.office k l.number l.deposit) (range_with_len l.hold (l.count + 1 - l.hold)) ≡ live_holds l.office l.number l.deposit
