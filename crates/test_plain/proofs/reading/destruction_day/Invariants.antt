use Rattle.test_plain.proofs.Common.{◌≡◌, drop, first_said, destroyed_in}
use Rattle.test_plain.proofs.reading.destruction_day.Given as goal

abbrev pub invariant-loop-change : goal.invariant-loop-change
invariant-loop-change l = first_said (destroyed_in l.deposit) (drop l.change-index l.changes) ≡ first_said (destroyed_in l.deposit) l.changes
