use Rattle.desk_answers.proofs.Common.{refl}
use Rattle.desk_answers.proofs.Walk.{answer_is_orderly}
use Rattle.desk_answers.proofs.laws.ascending_keys.Goals as goal

pub returns-clause-answers : goal.returns-clause-answers
returns-clause-answers c = λ answer. (answer_is_orderly answer).1

pub returns-clause-refusals : goal.returns-clause-refusals
returns-clause-refusals c = λ refusal. refl
