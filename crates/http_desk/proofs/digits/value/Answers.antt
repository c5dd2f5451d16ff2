use Rattle.office_core.proofs.DigitLemmas.{one_digit}
use Rattle.http_desk.proofs.digits.value.Goals as goal

pub loop-digit-preserved : goal.loop-digit-preserved
loop-digit-preserved c = one_digit c.args.digits.now c.loop-digit.digit-index c.loop-digit.n c.from.result c.loop-digit-test.true c.requires.all c.loop-digit.invariant.0 c.loop-digit.invariant.1 c.from.ensures
