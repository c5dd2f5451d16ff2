use Rattle.office_history.proofs.Lemmas.{limits_hold}
use Rattle.office_history.proofs.laws.limits_hold.Goals as goal

pub returns : goal.returns
returns c = limits_hold
