-- What a request does to the rows of a legal history, by what refuses it, what it answers, and the rows that it leaves.
use Rattle.office_refines.proofs.Common.{◌≡◌, ℕ, List, [], ◌∷◌, Option, Some, None, refl, sym, ap, ◌∙◌, Date, ◌>>=◌, first_some, Answer, Refusal, Request, DownloadFile, Tables, this_version, allowed_change, answer_unless, changes_unless, History, Deposit, with_changes, picture, denial_at, file_refusals, no_file, grown_by_none, Visit, allowed_answer, allowed_rows, serve, serve_unless, refusal_before, deposit_numbered, gone_refusal, of_deposit, refusal}
use Rattle.office_history.specs.Refusals.{kept_refusals}
use Rattle.office_core.specs.declared.action.Action.TheVariants as acts
use Rattle.office_history.specs.Answers as histories
use Rattle.office_history.specs.Refusals as refusing

module _ (h : History) (day : Date) (caller : List ℕ) where
  -- what refuses the download of a bag refuses that of each of its files
  file_refused : (n : ℕ) (path : List ℕ) (why : Refusal) → first_some (of_deposit (deposit_numbered h n) (kept_refusals h day caller acts.Download n)) ≡ Some why
      → first_some (of_deposit (deposit_numbered h n) (file_refusals h day caller n path)) ≡ Some why
  file_refused n path why = by (deposit_numbered h n)
    where
      before : (denied destroyed missing : Option Refusal) → first_some (denied ∷ destroyed ∷ []) ≡ Some why → first_some (denied ∷ destroyed ∷ missing ∷ []) ≡ Some why
      before (Some other) destroyed missing e = e
      before None (Some other) missing e = e
      before None None missing e = absurd cc

      by : (o : Option (Date × Deposit)) → first_some (of_deposit o (kept_refusals h day caller acts.Download n)) ≡ Some why → first_some (of_deposit o (file_refusals h day caller n path)) ≡ Some why
      by None e = e
      by (Some found) e = before (denial_at h day caller acts.Download found.1) (gone_refusal h n) (no_file found.1 path) e

  stands : (request : Request) (why : Refusal) → refusal_before h day caller request ≡ Some why → refusing.refusal h day caller request ≡ Some why
  stands (DownloadFile n path) why e = file_refused n path.now why e
  stands request why e = e

module _ (h : History) (visit : Visit) (request : Request) where
  abbrev t : Tables
  t = picture this_version h

  abbrev before : Option Refusal
  before = refusal_before h visit.day visit.caller request

  abbrev given : Answer
  given = histories.answer h visit.day visit.caller request

  abbrev left : Tables
  left = picture this_version (histories.after h visit.day visit.caller request)

  pub serve_exact : refusal t visit request ≡ Some before
      → (before ≡ None → allowed_answer t visit request ≡ Some given)
      → (before ≡ None → allowed_rows t visit request ≡ Some left)
      → serve t visit request ≡ Some (given, left)
  serve_exact told answered changed = (λ i. told i >>= λ refused. serve_unless refused t visit request) ∙ by before refl
    where
      by : (o : Option Refusal) → before ≡ o → serve_unless o t visit request ≡ Some (given, left)
      by None free = λ i. answered free i >>= λ answer. changed free i >>= λ next. Some (answer, next)
      by (Some why) against =
          let is = sym (stands h visit.day visit.caller request why against) in
          let same : t ≡ left = ap (picture this_version) (grown_by_none h) ∙ ap (λ o. picture this_version (with_changes h (changes_unless o (allowed_change h visit.day request)))) is in
          λ i. Some (answer_unless (is i) (histories.allowed_answer h visit.day visit.caller request), same i)
