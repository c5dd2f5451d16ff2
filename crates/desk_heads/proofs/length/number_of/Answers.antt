use Rattle.office_core.proofs.DigitLemmas.{one_digit}
use Rattle.desk_heads.proofs.DigitLemmas.{all_digits}
use Rattle.desk_heads.proofs.length.number_of.Goals as goal

pub loop-digit-preserved : goal.loop-digit-preserved
loop-digit-preserved c = one_digit c.args.digits.now c.loop-digit.digit-index c.loop-digit.number c.from.result c.loop-digit-test.true (all_digits c.args.digits.now c.requires) c.loop-digit.invariant.0 c.loop-digit.invariant.1 c.from.ensures
