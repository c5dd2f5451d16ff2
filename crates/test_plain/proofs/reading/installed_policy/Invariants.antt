use Rattle.test_plain.proofs.Common.{◌≡◌, drop, option_copied, option_or, last_said, installed_in}
use Rattle.test_plain.proofs.reading.installed_policy.Given as goal

abbrev pub invariant-loop-change : goal.invariant-loop-change
invariant-loop-change l = option_or (last_said installed_in (drop l.change-index l.changes)) (option_copied l.last) ≡ last_said installed_in l.changes
