use Rattle.office_history.proofs.Lemmas.{DownloadFile, was_deposited, both_answered, served_content}
use Rattle.office_core.specs.declared.answer.Answer.TheVariants as answers
use Rattle.office_core.specs.declared.request.Request.TheVariants.{Deposit as MakeDeposit}
use Rattle.office_history.proofs.laws.files_are_downloaded_as_deposited.Goals as goal

pub returns-clause-answered : goal.returns-clause-answered
returns-clause-answered c = λ h next day later n bytes caller other description bag path e after_it served.
    let made = was_deposited h next day n caller description bag e after_it in
    let form = (c.transfer_forms.ensures.read bag.now made.found.1.bag).0 made.read in
    (made.found.1.bag, form.0, form.1, served_content next later other n path made.found bytes made.there served)

pub returns-clause-ran : goal.returns-clause-ran
returns-clause-ran c = λ h mid late next items given day later n bytes caller other description bag path first run last.
    let both = both_answered h mid late next items given (day, caller, MakeDeposit description bag) (later, other, DownloadFile n path) (answers.Deposited n) (answers.File bytes) (λ x. x) (λ x. x) first run last in
    returns-clause-answered c h late day later n bytes caller.now other.now description bag path both.first_answer both.later both.last_answer
