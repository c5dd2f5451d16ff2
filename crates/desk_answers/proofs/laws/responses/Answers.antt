use Rattle.desk_answers.proofs.LawLemmas.{answer_reading, refusal_reading}
use Rattle.desk_answers.proofs.laws.responses.Goals as goal

pub returns-clause-answers : goal.returns-clause-answers
returns-clause-answers c = answer_reading

pub returns-clause-refusals : goal.returns-clause-refusals
returns-clause-refusals c = refusal_reading
