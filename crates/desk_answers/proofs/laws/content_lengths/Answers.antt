use Rattle.desk_answers.proofs.LawLemmas.{answer_length, refusal_length}
use Rattle.desk_answers.proofs.laws.content_lengths.Goals as goal

pub returns-clause-answers : goal.returns-clause-answers
returns-clause-answers c = answer_length

pub returns-clause-refusals : goal.returns-clause-refusals
returns-clause-refusals c = refusal_length
