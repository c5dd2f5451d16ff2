use Rattle.office_commands.proofs.WorkLemmas.{read_of}
use Rattle.office_commands.proofs.policy_file.policy_from.Goals as goal

pub returns-in-Ok-clause-read : goal.returns-in-Ok-clause-read
returns-in-Ok-clause-read g c = read_of _ _ c.read_policy_from.result c.in-Ok.read c.in-Ok.is c.read_policy_from.ensures.read c.read_policy_from.ensures.given
