use Rattle.office_core.proofs.PolicyDays.{days_are_written}
use Rattle.office_core.proofs.laws.written_days.Goals as goal

pub returns : goal.returns
returns c = days_are_written
