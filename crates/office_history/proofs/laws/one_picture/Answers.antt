use Rattle.office_history.proofs.Common.{[], ◌∷◌, Installed}
use Rattle.office_history.proofs.Alike.{alike_grown, same_picture, same_stock}
use Rattle.office_history.proofs.AlikeAnswers.{same_answer, alike_after}
use Rattle.office_history.proofs.Pictured.{alike}
use Rattle.office_history.proofs.laws.one_picture.Goals as goal

pub returns-clause-answers : goal.returns-clause-answers
returns-clause-answers c = λ h k version legal_h legal_k e day caller request. same_answer h k (alike h k version legal_h legal_k e) day caller request

pub returns-clause-pictures : goal.returns-clause-pictures
returns-clause-pictures c = λ h k version legal_h legal_k e day caller request.
    same_picture _ _ (alike_after h k (alike h k version legal_h legal_k e) day caller request) version

pub returns-clause-installs : goal.returns-clause-installs
returns-clause-installs c = λ h k version legal_h legal_k e policy.
    same_picture _ _ (alike_grown h k (alike h k version legal_h legal_k e) (Installed policy ∷ [])) version

pub returns-clause-stocks : goal.returns-clause-stocks
returns-clause-stocks c = λ h k version legal_h legal_k e. same_stock h k (alike h k version legal_h legal_k e)
