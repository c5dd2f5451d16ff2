use Rattle.office_commands.proofs.StoreLemmas.{memory_leads}
use Rattle.office_commands.proofs.laws.memory_leads_on.Goals as goal

pub returns : goal.returns
returns c = memory_leads
