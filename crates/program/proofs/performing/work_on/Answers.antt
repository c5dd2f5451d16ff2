use Rattle.std.proofs.Common.{Ok}
use Rattle.program.proofs.StoreLemmas.{store_answered}
use Rattle.program.proofs.performing.work_on.Goals as goal

pub returns-in-Ok-clause-answers : goal.returns-in-Ok-clause-answers
returns-in-Ok-clause-answers g c = store_answered _ _ c.args.store.now c.args.work.now _ (Ok c.in-Ok.done) _ _ c.in-Ok.ensures.comes

pub returns-in-Ok-clause-does : goal.returns-in-Ok-clause-does
returns-in-Ok-clause-does g c = c.in-Ok.ensures.comes

pub returns-in-Err-clause-does : goal.returns-in-Err-clause-does
returns-in-Err-clause-does g c = c.in-Err.ensures.comes
