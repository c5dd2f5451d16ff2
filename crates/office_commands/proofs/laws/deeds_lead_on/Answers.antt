use Rattle.office_commands.proofs.DeedLemmas.{deeds_lead}
use Rattle.office_commands.proofs.laws.deeds_lead_on.Goals as goal

pub returns : goal.returns
returns g c = deeds_lead g.S.Store
