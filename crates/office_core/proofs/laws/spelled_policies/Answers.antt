use Rattle.office_core.proofs.Lemmas.{spelled_policy}
use Rattle.office_core.proofs.laws.spelled_policies.Goals as goal

pub returns : goal.returns
returns c = spelled_policy
