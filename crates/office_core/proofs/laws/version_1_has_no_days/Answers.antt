use Rattle.office_core.proofs.PolicyDays.{first_version_has_no_days, no_days_told}
use Rattle.office_core.proofs.laws.version_1_has_no_days.Goals as goal

pub returns-clause-version : goal.returns-clause-version
returns-clause-version c = first_version_has_no_days

pub returns-clause-text : goal.returns-clause-text
returns-clause-text c = no_days_told
