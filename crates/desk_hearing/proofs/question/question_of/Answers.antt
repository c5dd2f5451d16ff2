use Rattle.desk_hearing.proofs.Lemmas.{Err, refl, ap, ◌∙◌, subst, err_from_is_err_and, AllowsQuery, keys_refused, listing_refused}
use Rattle.percent_encoding.specs.Percent.{percent_decode}
use Rattle.desk_hearing.specs.declared.owned_request.OwnedRequest.TheVariants as owned
use Rattle.desk_hearing.specs.declared.question.Question.TheVariants as questions
use Rattle.desk_hearing.proofs.question.question_of.Goals as goal

pub returns-in_err-check_keys-clause-asked : goal.returns-in_err-check_keys-clause-asked
returns-in_err-check_keys-clause-asked c =
    let p = err_from_is_err_and c.from_residual.result c.from_residual.ensures.1 in
    rw (p.1, p.2) (keys_refused _ c.args.query.now _ (λ a. let wrong = c.in_err-check_keys.ensures.taken.1 a in cc) c.in_err-check_keys.ensures.fault)

pub returns-in_err-listing-in-List-clause-asked : goal.returns-in_err-listing-in-List-clause-asked
returns-in_err-listing-in-List-clause-asked c =
    let p = err_from_is_err_and c.from_residual-in_err-listing-in-List.result c.from_residual-in_err-listing-in-List.ensures.1 in
    rw (c.in-List.is, p.1, p.2) (listing_refused c.args.query.now _ (λ e. c.in_err-listing-in-List.ensures.refused (ap Err e)))

pub returns-in_ok-listing-in-List-clause-asked : goal.returns-in_ok-listing-in-List-clause-asked
returns-in_ok-listing-in-List-clause-asked c = rw c.in-List.is (c.in_ok-listing-in-List.listing, c.in_ok-listing-in-List.ensures.listing, refl)

pub returns-in_ok-read_deposit_query-in-Deposit-clause-asked : goal.returns-in_ok-read_deposit_query-in-Deposit-clause-asked
returns-in_ok-read_deposit_query-in-Deposit-clause-asked c = rw c.in-Deposit.is (c.in_ok-read_deposit_query-in-Deposit.field-0, c.in_ok-read_deposit_query-in-Deposit.ensures.deposit, refl)

pub returns-in_ok-to_owned-in-DefineClass-clause-asked : goal.returns-in_ok-to_owned-in-DefineClass-clause-asked
returns-in_ok-to_owned-in-DefineClass-clause-asked c =
    let none = subst (λ route. AllowsQuery route c.args.query.now) c.in-DefineClass.is (c.in_ok-check_keys.ensures.taken.0 refl) in
    rw c.in-DefineClass.is (none, ap questions.Class c.in_ok-to_owned-in-DefineClass.ensures)

pub returns-in_ok-name-in-DefineCollection-clause-asked : goal.returns-in_ok-name-in-DefineCollection-clause-asked
returns-in_ok-name-in-DefineCollection-clause-asked c =
    let none = subst (λ route. AllowsQuery route c.args.query.now) c.in-DefineCollection.is (c.in_ok-check_keys.ensures.taken.0 refl) in
    rw c.in-DefineCollection.is (none, ap (λ name. questions.Whole (owned.DefineCollection name)) c.in_ok-name-in-DefineCollection.ensures)

pub returns-in_ok-path-in-DownloadFile-clause-asked : goal.returns-in_ok-path-in-DownloadFile-clause-asked
returns-in_ok-path-in-DownloadFile-clause-asked c =
    let none = subst (λ route. AllowsQuery route c.args.query.now) c.in-DownloadFile.is (c.in_ok-check_keys.ensures.taken.0 refl) in
    rw c.in-DownloadFile.is (none, ap (λ path. questions.Whole (owned.DownloadFile c.in-DownloadFile.deposit path)) (c.in_ok-path-in-DownloadFile.ensures ∙ ap percent_decode c.as_str.ensures.text))
