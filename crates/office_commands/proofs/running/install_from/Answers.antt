use Rattle.office_commands.proofs.Common.{refl}
use Rattle.office_commands.proofs.WorkLemmas.{goes_on, is_refused, says_refused}
use Rattle.office_commands.proofs.running.install_from.Goals as goal

pub returns-in-Ok-Ok-clause-comes : goal.returns-in-Ok-Ok-clause-comes
returns-in-Ok-Ok-clause-comes g c = goes_on _ c.in-Ok-Ok.field-0 _ c.in-Ok-Ok.field-0-is c.in-Ok-Ok.ensures.read c.install_and_say.ensures.installs

pub returns-in-Ok-Err-clause-comes : goal.returns-in-Ok-Err-clause-comes
returns-in-Ok-Err-clause-comes g c =
    is_refused _ c.in-Ok-Err.field-0 c.in-Ok-Err.refused c.in-Ok-Err.field-0-is c.in-Ok-Err.ensures.read
    (refl, says_refused c.say_refused.result c.in-Ok-Err.refused _ _ c.say_refused.ensures.printed c.say_refused.ensures.written c.say_refused.ensures.reason c.say_refused.ensures.ending c.say_refused.ensures.unsaid, refl)
