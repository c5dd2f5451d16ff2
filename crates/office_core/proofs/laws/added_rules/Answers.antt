use Rattle.office_core.proofs.Lemmas.{kept_decision}
use Rattle.office_core.proofs.laws.added_rules.Goals as goal

pub returns : goal.returns
returns c = kept_decision
