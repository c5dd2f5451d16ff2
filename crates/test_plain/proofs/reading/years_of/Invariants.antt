use Rattle.test_plain.proofs.Common.{◌≡◌, drop, option_or, last_said, years_in}
use Rattle.test_plain.proofs.reading.years_of.Given as goal

abbrev pub invariant-loop-change : goal.invariant-loop-change
invariant-loop-change l = option_or (last_said (years_in l.class) (drop l.change-index l.changes)) l.last ≡ last_said (years_in l.class) l.changes
