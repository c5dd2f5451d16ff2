use Rattle.office_commands.proofs.StoreLemmas.{files_lead}
use Rattle.office_commands.proofs.laws.files_lead_on.Goals as goal

pub returns : goal.returns
returns g c = files_lead g.D.Disk
