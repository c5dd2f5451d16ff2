use Rattle.office_history.proofs.Lemmas.{◌∙◌, sym, DownloadBag, was_deposited, both_answered, served_form}
use Rattle.office_core.specs.declared.answer.Answer.TheVariants as answers
use Rattle.office_core.specs.declared.request.Request.TheVariants.{Deposit as MakeDeposit}
use Rattle.office_history.proofs.laws.downloaded_as_deposited.Goals as goal

pub returns-clause-answered : goal.returns-clause-answered
returns-clause-answered c = λ h next day later n bytes caller other description bag e after_it served.
    let made = was_deposited h next day n caller description bag e after_it in
    served_form next later other n made.found bytes made.there served ∙ sym ((c.transfer_forms.ensures.read bag.now made.found.1.bag).0 made.read).1

pub returns-clause-ran : goal.returns-clause-ran
returns-clause-ran c = λ h mid late next items given day later n bytes caller other description bag first run last.
    let both = both_answered h mid late next items given (day, caller, MakeDeposit description bag) (later, other, DownloadBag n) (answers.Deposited n) (answers.Bag bytes) (λ x. x) (λ x. x) first run last in
    returns-clause-answered c h late day later n bytes caller.now other.now description bag both.first_answer both.later both.last_answer
