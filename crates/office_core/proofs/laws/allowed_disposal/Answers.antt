use Rattle.office_core.proofs.Lemmas.{allowed_disposal, ready_disposal}
use Rattle.office_core.proofs.laws.allowed_disposal.Goals as goal

pub returns : goal.returns
returns c = λ facts day dispose. (allowed_disposal facts day dispose, ready_disposal facts day dispose)
