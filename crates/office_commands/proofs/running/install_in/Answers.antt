use Rattle.office_commands.proofs.Common.{inr}
use Rattle.office_commands.proofs.running.install_in.Goals as goal

pub returns-in-Ok-clause-comes : goal.returns-in-Ok-clause-comes
returns-in-Ok-clause-comes g c = inr (c.in-Ok.file, c.install_from.ensures.comes)
