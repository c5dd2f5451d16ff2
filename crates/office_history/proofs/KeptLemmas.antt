-- Due lists and what is kept, by what is in the lists; audits of legal histories.
use Rattle.office_history.proofs.FirstLemmas.{◌≡◌, ◌∙◌, ℕ, Bool, false, List, [], ◌∷◌, length, map, Option, Some, None, slice_get, is_none, int_lt, sym, ap, subst, rules, flat_map, Contains, option_map_or, Date, epoch_day, File, first_some, answer_if, gone_verdict, hold_verdict, due_verdict, NotDue, Refusal, Audit, Dispose, numbers, History, Deposit, deposits, deposit_numbered, destruction_day, kept_numbers, IsDisposable, report_on, refusal_in, denial_at, of_deposit, disposal_refusals, refusal, answer, answer_unless, allowed_answer, audit_report, due_list, files_of, contents, IsKept, none_of, is_nothing, Has, contains_has, has_contains, has_filter, filter_has, has_map, map_has, numbered_has, has_gathered, gathered_has, first_places_have, has_in_places, disposable, by_Option}
use Rattle.office_core.specs.declared.action.Action.TheVariants as acts
use Rattle.office_core.specs.declared.answer.Answer.TheVariants as answers
use Rattle.office_core.specs.declared.answer.AuditReport.{AuditReport}
use Rattle.office_history.proofs.LawLemmas.{unrefused}

-- ---- due lists

listed_unrefused : (h : History) (day : Date) (caller : List ℕ) (n : ℕ) → Contains (due_list h day caller) n → refusal h day caller (Dispose n) ≡ None
listed_unrefused h day caller n found =
    let passes = filter_has (λ m. is_none (refusal h day caller (Dispose m))) (kept_numbers h) n (contains_has (due_list h day caller) n found) in
    is_nothing (refusal h day caller (Dispose n)) passes.1

pub listed_is_due : (h : History) (day : Date) (caller : List ℕ) (n : ℕ) → Contains (due_list h day caller) n → answer h day caller (Dispose n) ≡ answers.Destroyed n day
listed_is_due h day caller n found = ap (λ (why : Option Refusal). answer_unless why (answers.Destroyed n day)) (listed_unrefused h day caller n found)

-- the number of a deposit that was not destroyed is one of those that are kept
is_kept : (h : History) (n : ℕ) (found : Date × Deposit) → deposit_numbered h n ≡ Some found → destruction_day h n ≡ None → Has (kept_numbers h) n
is_kept h n found there stays = has_filter (λ m. is_none (destruction_day h m)) (numbers (length (deposits h))) n (numbered_has (deposits h) n found there) (ap is_none stays)

pub due_is_listed : (h : History) (day : Date) (caller : List ℕ) (n : ℕ) → answer h day caller (Dispose n) ≡ answers.Destroyed n day → Contains (due_list h day caller) n
due_is_listed h day caller n e =
    let r = unrefused (refusal h day caller (Dispose n)) (answers.Destroyed n day) (answers.Destroyed n day) e (λ r. λ wrong. absurd cc) in
    let may = disposable h day caller n r.0 in
    has_contains (due_list h day caller) n (has_filter (λ m. is_none (refusal h day caller (Dispose m))) (kept_numbers h) n (is_kept h n may.found may.there may.kept) (ap is_none r.0))

-- the disposal of a deposit that may be destroyed, and that the rules let the caller destroy, is not refused
unrefused_disposal : (h : History) (day : Date) (caller : List ℕ) (n : ℕ) (may : IsDisposable h day n) → denial_at h day caller acts.Dispose may.found.1 ≡ None → refusal h day caller (Dispose n) ≡ None
unrefused_disposal h day caller n may allowed =
    let come : int_lt (epoch_day day) (epoch_day may.date) ≡ false = (let has_come = may.has_come in search (rules, has_come)) in
    ap (λ (o : Option (Date × Deposit)). first_some (of_deposit o (disposal_refusals h day caller n))) may.there
    ∙ (λ i. first_some (allowed i ∷ refusal_in (gone_verdict (may.kept i)) ∷ refusal_in (hold_verdict (slice_get (may.unheld i) 0)) ∷ refusal_in (due_verdict day (may.due i)) ∷ []))
    ∙ ap (λ (early : Bool). first_some (refusal_in (answer_if early (NotDue may.date)) ∷ [])) come

pub disposable_is_listed : (h : History) (day : Date) (caller : List ℕ) (n : ℕ) (may : IsDisposable h day n) → denial_at h day caller acts.Dispose may.found.1 ≡ None → Contains (due_list h day caller) n
disposable_is_listed h day caller n may allowed =
    due_is_listed h day caller n (ap (λ why. answer_unless why (answers.Destroyed n day)) (unrefused_disposal h day caller n may allowed))

pub listed_is_disposable : (h : History) (day : Date) (caller : List ℕ) (n : ℕ) → Contains (due_list h day caller) n → (may : IsDisposable h day n) × (denial_at h day caller acts.Dispose may.found.1 ≡ None)
listed_is_disposable h day caller n listed =
    let free = listed_unrefused h day caller n listed in
    let may = disposable h day caller n free in
    (may, (none_of (denial_at h day caller acts.Dispose may.found.1) _ (sym (ap (λ (o : Option (Date × Deposit)). first_some (of_deposit o (disposal_refusals h day caller n))) may.there) ∙ free)).0)

-- ---- contents

abbrev content : File → List ℕ
content file = file.content

pub kept_content : (h : History) (text : List ℕ) → IsKept h text → Contains (contents h) text
kept_content h text k =
    let all = flat_map (files_of h) (kept_numbers h) in
    let stands : Has (files_of h k.number) k.file = subst (λ (o : Option (Date × Deposit)). Has (option_map_or (λ found. found.1.bag) o []) k.file) (sym k.there) (contains_has k.found.1.bag k.file k.has_file) in
    let here = has_map content all k.file (has_gathered (files_of h) k.number k.file (kept_numbers h) (is_kept h k.number k.found k.there k.kept) stands) in
    has_contains (contents h) text (first_places_have text (map content all) (subst (Has (map content all)) k.has_content here))

pub content_kept : (h : History) (text : List ℕ) → Contains (contents h) text → IsKept h text
content_kept h text found =
    let all = flat_map (files_of h) (kept_numbers h) in
    let mapped = map_has content all text (has_in_places text (map content all) (contains_has (contents h) text found)) in
    let gathered = gathered_has (files_of h) mapped.0 (kept_numbers h) mapped.1 in
    let passes = filter_has (λ m. is_none (destruction_day h m)) (numbers (length (deposits h))) gathered.0 gathered.1 in
    by_Option (deposit_numbered h gathered.0) (λ none. absurd (rw none at gathered.2))
    (λ found is. record {
      number = gathered.0;
      found = found;
      file = mapped.0;
      there = is;
      kept = is_nothing (destruction_day h gathered.0) passes.1;
      has_file = has_contains found.1.bag mapped.0 (rw is at gathered.2);
      has_content = mapped.2;
    })

-- ---- audits

-- an audit that is answered is of the deposit that was asked for, and reports on its bag
pub audited : (h : History) (day : Date) (caller : List ℕ) (n m : ℕ) (report : AuditReport) → answer h day caller (Audit n) ≡ answers.Audit m report
    → (m ≡ n) × ((found : Date × Deposit) × (deposit_numbered h n ≡ Some found) × (report ≡ audit_report (report_on found.1.bag)))
audited h day caller n m report e =
    let r = unrefused (refusal h day caller (Audit n)) (allowed_answer h day caller (Audit n)) (answers.Audit m report) e (λ r. λ wrong. absurd cc) in
    by_Option (deposit_numbered h n) (λ none. absurd (let told = rw none at r.1 in cc)) (λ found is. let told = rw is at r.1 in (cc, (found, is, cc)))
