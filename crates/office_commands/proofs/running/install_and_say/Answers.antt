use Rattle.office_commands.proofs.Common.{refl, logged_traffic}
use Rattle.office_commands.proofs.WorkLemmas.{says_installed, says_nothing}
use Rattle.office_commands.proofs.running.install_and_say.Goals as goal

pub returns-in-Ok-clause-installs : goal.returns-in-Ok-clause-installs
returns-in-Ok-clause-installs g c = (
  c.in_store.result,
  logged_traffic g.R.Read g.O.Write g.E.Write c.in_store.new.input c.in_store.new.out c.in_store.new.log,
  c.in_store.ensures.runs,
  says_installed c.in_store.result c.in-Ok.field-0 c.say_installed.result _ _ _ c.in-Ok.is c.say_installed.ensures.said c.say_installed.ensures.written c.say_installed.ensures.quiet c.say_installed.ensures.unsaid,
  refl,
)

pub returns-clause-installs : goal.returns-clause-installs
returns-clause-installs g c =
    (c.in_store.result, logged_traffic g.R.Read g.O.Write g.E.Write c.in_store.new.input c.in_store.new.out c.in_store.new.log, c.in_store.ensures.runs, says_nothing c.in_store.result c.in-Err.fault _ _ c.in-Err.is, refl)
