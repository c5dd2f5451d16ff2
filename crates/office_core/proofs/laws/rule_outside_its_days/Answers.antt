use Rattle.office_core.proofs.Lemmas.{off_its_days}
use Rattle.office_core.proofs.laws.rule_outside_its_days.Goals as goal

pub returns-clause-decides : goal.returns-clause-decides
returns-clause-decides c = off_its_days
