use Rattle.desk_answers.proofs.Common.{view, whole}
use Rattle.desk_answers.proofs.Lists.{map-take_next}
use Rattle.desk_answers.proofs.object.numbers.Goals as goal

pub loop-number-preserved : goal.loop-number-preserved
loop-number-preserved c = map-take_next view whole _ _ _ c.args.numbers.now c.loop-number.number-index 0 c.loop-number.invariant c.in_ok-push.ensures.items c.from.ensures c.loop-number-test.true
