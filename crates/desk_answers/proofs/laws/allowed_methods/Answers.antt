use Rattle.desk_answers.proofs.Common.{refl}
use Rattle.desk_routes.proofs.TableLemmas.{methods-sorted}
use Rattle.desk_answers.proofs.LawLemmas.{allow_present, answer_code_is_other}
use Rattle.desk_answers.proofs.laws.allowed_methods.Goals as goal

pub returns : goal.returns
returns c = record { present = allow_present; not_of_the_office = answer_code_is_other; names = λ pattern. refl; in_order = methods-sorted }
