use Rattle.program.proofs.AnswerLemmas.{use_refused}
use Rattle.program.proofs.running.run.Goals as goal

pub returns-in-Err-clause-refused : goal.returns-in-Err-clause-refused
returns-in-Err-clause-refused g c = λ nothing. use_refused c.in-Err.fault _ _ _ c.refuse.ensures
