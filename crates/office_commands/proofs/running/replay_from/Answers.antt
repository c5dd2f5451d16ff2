use Rattle.office_commands.proofs.Common.{refl}
use Rattle.office_commands.proofs.WorkLemmas.{goes_on, is_refused}
use Rattle.office_commands.proofs.running.replay_from.Goals as goal

pub returns-in-Ok-Ok-clause-comes : goal.returns-in-Ok-Ok-clause-comes
returns-in-Ok-Ok-clause-comes g c = goes_on _ c.in-Ok-Ok.field-0 _ c.in-Ok-Ok.field-0-is c.in-Ok-Ok.ensures.read c.in_store.ensures.runs

pub returns-in-Ok-Err-clause-comes : goal.returns-in-Ok-Err-clause-comes
returns-in-Ok-Err-clause-comes g c = is_refused _ c.in-Ok-Err.field-0 c.in-Ok-Err.refused c.in-Ok-Err.field-0-is c.in-Ok-Err.ensures.read (refl, (refl, refl))
