use Rattle.office_history.proofs.Lemmas.{◌∙◌, ap, ◌∷◌, [], DefineClass, with_changes, due, DefinedClass, refusal, changes_unless, revised_due, unrefused}
use Rattle.office_core.specs.declared.answer.Answer.TheVariants as answers
use Rattle.office_history.proofs.laws.revised_classes_move_due_days.Goals as goal

pub returns : goal.returns
returns c = λ h day caller name given_name years given_years deposit e same.
    let allowed = unrefused (refusal h day caller (DefineClass name years)) (answers.Class name years) (answers.Class given_name given_years) e (λ r. λ wrong. absurd cc) in
    ap (λ why. due (with_changes h (changes_unless why (DefinedClass day name years ∷ []))) deposit) allowed.0 ∙ revised_due h day name years deposit same
