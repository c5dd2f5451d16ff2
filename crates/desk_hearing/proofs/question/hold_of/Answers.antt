use Rattle.desk_hearing.proofs.Lemmas.{Err, sym, ap, err_from_is_err_and, ask_of_hold, form_refused}
use Rattle.desk_hearing.specs.declared.question.Question.TheVariants as questions
use Rattle.desk_hearing.proofs.question.hold_of.Goals as goal

pub returns-in_err-deposit-clause-asked : goal.returns-in_err-deposit-clause-asked
returns-in_err-deposit-clause-asked c =
    let p = err_from_is_err_and c.from_residual.result c.from_residual.ensures.1 in
    rw (p.1, p.2) (form_refused questions.Hold c.args.body.now _ (λ e ask x. c.in_err-deposit.ensures.refused (ap Err e) x.0 x.1))

pub returns-in-Deposit-clause-asked : goal.returns-in-Deposit-clause-asked
returns-in-Deposit-clause-asked c = (c.in_ok-deposit.field-0, c.in_ok-deposit.ensures.hold, sym (ap ask_of_hold c.in-Deposit.is))

pub returns-in-Collection-clause-asked : goal.returns-in-Collection-clause-asked
returns-in-Collection-clause-asked c = (c.in_ok-deposit.field-0, c.in_ok-deposit.ensures.hold, sym (ap ask_of_hold c.in-Collection.is))

pub returns-in-Class-clause-asked : goal.returns-in-Class-clause-asked
returns-in-Class-clause-asked c = (c.in_ok-deposit.field-0, c.in_ok-deposit.ensures.hold, sym (ap ask_of_hold c.in-Class.is))
