use Rattle.office_commands.proofs.Common.{refl}
use Rattle.office_commands.proofs.working.install_policy.Goals as goal

pub returns-in-Ok-clause-done : goal.returns-in-Ok-clause-done
returns-in-Ok-clause-done g c = (c.install.new.self, (c.install.ensures.survives, c.in-Ok.ensures.installed), refl)

pub returns-in-Err-clause-done : goal.returns-in-Err-clause-done
returns-in-Err-clause-done g c = (c.install.new.self, (c.install.ensures.survives, c.in-Err.ensures.kept), refl)
