use Rattle.test_plain.proofs.Common.{◌≡◌, drop, first_said, released_in}
use Rattle.test_plain.proofs.reading.release_day.Given as goal

abbrev pub invariant-loop-change : goal.invariant-loop-change
invariant-loop-change l = first_said (released_in l.hold) (drop l.change-index l.changes) ≡ first_said (released_in l.hold) l.changes
