use Rattle.desk_hearing.proofs.Lemmas.{Err, refl, ap, err_from_is_err_and, body_refused, form_refused}
use Rattle.desk_hearing.specs.declared.question.Question.TheVariants as questions
use Rattle.desk_hearing.proofs.question.ask_of.Goals as goal

pub returns-in_err-read_years-in-Class-clause-asked : goal.returns-in_err-read_years-in-Class-clause-asked
returns-in_err-read_years-in-Class-clause-asked c =
    let p = err_from_is_err_and c.from_residual.result c.from_residual.ensures.1 in
    rw (c.in-Class.is, p.1, p.2) (form_refused (questions.Class c.in-Class.name) c.args.body.now _ (λ e ask x. c.in_err-read_years-in-Class.ensures.refused (ap Err e) x.0 x.1))

pub returns-in_ok-read_years-in-Class-clause-asked : goal.returns-in_ok-read_years-in-Class-clause-asked
returns-in_ok-read_years-in-Class-clause-asked c = rw c.in-Class.is (c.in_ok-read_years-in-Class.field-0, c.in_ok-read_years-in-Class.ensures.years, refl)

pub returns-in-Deposit-clause-asked : goal.returns-in-Deposit-clause-asked
returns-in-Deposit-clause-asked c = rw c.in-Deposit.is refl

pub returns-in_err-check_no_body-in-Whole-clause-asked : goal.returns-in_err-check_no_body-in-Whole-clause-asked
returns-in_err-check_no_body-in-Whole-clause-asked c =
    let p = err_from_is_err_and c.from_residual-in_err-check_no_body-in-Whole.result c.from_residual-in_err-check_no_body-in-Whole.ensures.1 in
    rw (c.in-Whole.is, p.1, p.2) (body_refused c.in-Whole.ask c.args.body.now _ (λ e. let wrong = c.in_err-check_no_body-in-Whole.ensures.taken.1 e in cc))

pub returns-in_ok-check_no_body-in-Whole-clause-asked : goal.returns-in_ok-check_no_body-in-Whole-clause-asked
returns-in_ok-check_no_body-in-Whole-clause-asked c = rw c.in-Whole.is (c.in_ok-check_no_body-in-Whole.ensures.taken.0 refl, refl)
