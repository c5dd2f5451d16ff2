use Rattle.test_plain.proofs.Lemmas.{arith, common_steps, numbered_next}
use Rattle.test_plain.proofs.reading.deposit_numbered.Goals.{in-Some+else-left-eq1, in_default}
use Rattle.test_plain.proofs.reading.deposit_numbered.Goals as goal

pub loop-change-preserved : goal.loop-change-preserved
loop-change-preserved c = elim c.match-deposit.branch [
  | in-Some+else-left-eq1 w ↦ grind (arith, common_steps, numbered_next)
  | in_default w ↦ grind (arith, common_steps)
]
