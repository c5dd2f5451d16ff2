-- Histories that agree in all that the office decides by answer alike, and change alike.
use Rattle.office_history.proofs.FirstLemmas.{◌≡◌, ℕ, ◌+◌, ◌&&◌, ◌||◌, Bool, true, false, List, [], ◌∷◌, length, map, filter, Option, Some, None, option_map, slice_get, is_none, refl, sym, ap, subst, ◌∙◌, nat_le, cond, if◌then◌else◌, position, bytes_eq, not, is_some, filter_map, list_any, position_from, option_map_or, same_Some, bytes_eq-Decides, and-true, Date, set_text, content_at, first_some, answer_if, PolicyValue, role_of, decision_of, due_of, Action, Answer, Never, Refusal, NoSuch, Gone, Taken, Released, Full, Request, DefineClass, DefineCollection, Record, Holds, DownloadBag, DownloadFile, Audit, HoldDeposit, HoldCollection, HoldClass, Release, Dispose, DueList, item_numbered, numbers, distinct_after, in_first_places, History, Change, DefinedCollection, Target, OnDeposit, OnCollection, OnClass, Deposit, Hold, with_changes, policy, has_collection, collections, deposits, deposit_numbered, accession_of, destruction_day, due, reaches, live_holds, has_accession, report_on, refusal_in, denial, denial_at, closed_ahead_refusal, bad_bag, held_refusal, not_due_refusal, full_of_holds, no_file, of_deposit, of_hold, release_denial_of, release_denial, refusal, Wanted, record_of, is_selected, listed_record, listed_records, due_list, live_hold, told_holds, audit_report, told_of, file_answer, allowed_answer, allowed_change, answer_unless, answer, changes_unless, change, after, Outline, outline, Alike, alike_grown, same_count, same_outline, same_found, same_kept, mapped_of_kept, is_nothing, by_Option, arith}
use Rattle.std.proofs.lemmas.Iterator.Adapters.{position_from-zero}
use Rattle.office_core.specs.declared.action.Action.TheVariants as acts
use Rattle.office_core.specs.declared.answer.Answer.TheVariants as answers
use Rattle.office_core.specs.declared.refusal.Subject.TheVariants as subjects
use Rattle.office_core.specs.declared.request.Request.TheVariants.{Deposit as MakeDeposit, List as ListDeposits}
use Rattle.office_core.specs.Verdicts as deciding

-- ---- what the rules say

same_denied : (h k : History) → Alike h k → (day : Date) (caller : List ℕ) (action : Action) (collection class : Option (List ℕ)) → denial h day caller action collection class ≡ denial k day caller action collection class
same_denied h k a day caller action collection class =
    ap (λ (p : PolicyValue). refusal_in (deciding.denial_verdict (decision_of p.rules (record { role = role_of p caller; action = action; collection = collection; class = class; day = day })))) a.same_policy

same_denied_at : (h k : History) → Alike h k → (day : Date) (caller : List ℕ) (action : Action) (deposit : Deposit) → denial_at h day caller action deposit ≡ denial_at k day caller action deposit
same_denied_at h k a day caller action deposit = same_denied h k a day caller action (Some deposit.description.collection) (Some deposit.description.class)

-- ---- collections and accessions

once_among : (b c a s : Bool) → (c ≡ true → s ≡ b) → cond b (a && not s) (c || (a && not (c || s))) ≡ ((c || a) && not s)
once_among b c a s h = grind (arith, h)

-- a text is among those stored once where it is among all, and was not seen before
among_distinct : (text : List ℕ) (seen texts : List (List ℕ)) → list_any (bytes_eq text) (distinct_after seen texts) ≡ (list_any (bytes_eq text) texts && not (list_any (bytes_eq text) seen))
among_distinct text seen [] = refl
among_distinct text seen (x ∷ texts) =
    split (list_any (bytes_eq x) seen)
    ∙ (λ i. cond (list_any (bytes_eq x) seen) (among_distinct text seen texts i) (bytes_eq text x || among_distinct text (x ∷ seen) texts i))
    ∙ once_among (list_any (bytes_eq x) seen) (bytes_eq text x) (list_any (bytes_eq text) texts) (list_any (bytes_eq text) seen)
    (λ e. ap (λ (y : List ℕ). list_any (bytes_eq y) seen) ((bytes_eq-Decides text x).0 e))
  where
    split : (b : Bool) → list_any (bytes_eq text) (cond b (distinct_after seen texts) (x ∷ distinct_after (x ∷ seen) texts))
        ≡ cond b (list_any (bytes_eq text) (distinct_after seen texts)) (bytes_eq text x || list_any (bytes_eq text) (distinct_after (x ∷ seen) texts))
    split true = refl
    split false = refl

pub among_first_places : (text : List ℕ) (texts : List (List ℕ)) → list_any (bytes_eq text) (in_first_places texts) ≡ list_any (bytes_eq text) texts
among_first_places text texts = among_distinct text [] texts ∙ and-true (list_any (bytes_eq text) texts)

same_collection : (h k : History) → Alike h k → (name : List ℕ) → has_collection h name ≡ has_collection k name
same_collection h k a name =
    sym (among_first_places name (collections h))
    ∙ ap (list_any (bytes_eq name)) a.same_collections
    ∙ among_first_places name (collections k)

abbrev has_outline : List ℕ → Outline → Bool
has_outline accession o = bytes_eq o.description.accession accession

place_of_outline : (accession : List ℕ) (n : ℕ) (ds : List (Date × Deposit)) → position_from (has_accession accession) n ds ≡ position_from (has_outline accession) n (map outline ds)
place_of_outline accession n [] = refl
place_of_outline accession n (d ∷ ds) = ap (cond (has_accession accession d) (Some n)) (place_of_outline accession (n + 1) ds)

place_found : (accession : List ℕ) (h : History) → position (has_accession accession) (deposits h) ≡ position_from (has_outline accession) 0 (map outline (deposits h))
place_found accession h = position_from-zero (has_accession accession) (deposits h) ∙ place_of_outline accession 0 (deposits h)

same_accession : (h k : History) → Alike h k → (accession : List ℕ) → accession_of h accession ≡ accession_of k accession
same_accession h k a accession =
    ap (option_map (λ place. place + 1))
    (place_found accession h ∙ ap (position_from (has_outline accession) 0) a.same_deposits ∙ sym (place_found accession k))

-- ---- holds and due days

same_live : (h k : History) → Alike h k → (n : ℕ) (deposit : Deposit) → live_holds h n deposit ≡ live_holds k n deposit
same_live h k a n deposit = λ i.
    filter (λ j. is_none (a.same_released j i) && option_map_or (λ (hold : Date × Hold). reaches hold.1.target n deposit) (item_numbered (a.same_holds i) j) false)
    (numbers (length (a.same_holds i)))

same_due : (h k : History) → Alike h k → (deposit : Deposit) → due h deposit ≡ due k deposit
same_due h k a deposit = ap (λ years. option_map_or (due_of deposit.description.closed) years Never) (a.same_years deposit.description.class)

same_full_of_holds : (h k : History) → Alike h k → full_of_holds h ≡ full_of_holds k
same_full_of_holds h k a = λ i. answer_if (nat_le (a.same_max_holds i) (length (a.same_holds i))) Full

-- ---- the refusals of a request that names a deposit: whether it is denied, whether it is gone, and the rest

abbrev denied_outline : PolicyValue → Date → List ℕ → Action → Outline → Option Refusal
denied_outline p day caller action o = refusal_in (deciding.denial_verdict (decision_of p.rules (record { role = role_of p caller; action = action; collection = Some o.description.collection; class = Some o.description.class; day = day })))

abbrev row : PolicyValue → Date → List ℕ → Action → Option Date → Option (Date × Deposit) → (Deposit → List (Option Refusal)) → Option Refusal
row p day caller action gone there rest =
    first_some (of_deposit there (λ d.
    refusal_in (deciding.denial_verdict (decision_of p.rules (record { role = role_of p caller; action = action; collection = Some d.description.collection; class = Some d.description.class; day = day })))
    ∷ refusal_in (deciding.gone_verdict gone)
    ∷ rest d))

-- what comes after a refusal doesn't matter
cut : (first : Option Refusal) (why : Refusal) (r s : List (Option Refusal)) → first_some (first ∷ Some why ∷ r) ≡ first_some (first ∷ Some why ∷ s)
cut None why r s = refl
cut (Some x) why r s = refl

same_row_of : (p : PolicyValue) (day : Date) (caller : List ℕ) (action : Action) (gone : Option Date) (x y : Option (Date × Deposit)) (r s : Deposit → List (Option Refusal))
    → option_map outline x ≡ option_map outline y → (gone ≡ None → x ≡ y) → (gone ≡ None → (d : Deposit) → r d ≡ s d)
    → row p day caller action gone x r ≡ row p day caller action gone y s
same_row_of p day caller action None x y r s e same more = λ i. row p day caller action None (same refl i) (λ d. more refl d i)
same_row_of p day caller action (Some on) None None r s e same more = refl
same_row_of p day caller action (Some on) (Some x) (Some y) r s e same more =
    cut (denied_outline p day caller action (outline x)) (Gone on) (r x.1) (s y.1)
    ∙ ap (λ (o : Outline). first_some (denied_outline p day caller action o ∷ Some (Gone on) ∷ s y.1)) (same_Some (outline x) (outline y) e)
same_row_of p day caller action (Some on) _ _ r s e same more = absurd cc

same_row_at : (h k : History) → Alike h k → (day : Date) (caller : List ℕ) (action : Action) (n : ℕ) (r s : Deposit → List (Option Refusal))
    → (destruction_day h n ≡ None → (d : Deposit) → r d ≡ s d)
    → row (policy h) day caller action (destruction_day h n) (deposit_numbered h n) r ≡ row (policy k) day caller action (destruction_day k n) (deposit_numbered k n) s
same_row_at h k a day caller action n r s more =
    same_row_of (policy h) day caller action (destruction_day h n) (deposit_numbered h n) (deposit_numbered k n) r s (same_outline h k a n) (same_found h k a n) more
    ∙ (λ i. row (a.same_policy i) day caller action (a.same_gone n i) (deposit_numbered k n) s)

-- ---- the refusals of a release

release_of_outline : (h : History) (day : Date) (caller : List ℕ) (x y : Option (Date × Deposit)) → option_map outline x ≡ option_map outline y → release_denial_of h day caller x ≡ release_denial_of h day caller y
release_of_outline h day caller None None e = refl
release_of_outline h day caller (Some x) (Some y) e = ap (λ (o : Outline). denial h day caller acts.Release (Some o.description.collection) (Some o.description.class)) (same_Some (outline x) (outline y) e)
release_of_outline h day caller _ _ e = absurd cc

release_by_policy : (h k : History) → Alike h k → (day : Date) (caller : List ℕ) (x : Option (Date × Deposit)) → release_denial_of h day caller x ≡ release_denial_of k day caller x
release_by_policy h k a day caller None = refl
release_by_policy h k a day caller (Some found) = same_denied_at h k a day caller acts.Release found.1

same_release : (h k : History) → Alike h k → (day : Date) (caller : List ℕ) (target : Target) → release_denial h day caller target ≡ release_denial k day caller target
same_release h k a day caller (OnDeposit n) =
    release_of_outline h day caller (deposit_numbered h n) (deposit_numbered k n) (same_outline h k a n)
    ∙ release_by_policy h k a day caller (deposit_numbered k n)
same_release h k a day caller (OnCollection name) = same_denied h k a day caller acts.Release (Some name) None
same_release h k a day caller (OnClass name) = same_denied h k a day caller acts.Release None (Some name)

-- ---- all refusals

pub same_refusal : (h k : History) → Alike h k → (day : Date) (caller : List ℕ) (request : Request) → refusal h day caller request ≡ refusal k day caller request
same_refusal h k a day caller (DefineClass name years) = λ i. first_some (same_denied h k a day caller acts.Class None (Some name) i ∷ [])
same_refusal h k a day caller (DefineCollection name) = λ i. first_some (same_denied h k a day caller acts.Collection (Some name) None i ∷ [])
same_refusal h k a day caller (MakeDeposit description bag) = λ i.
    first_some (
    answer_if (not (same_collection h k a description.collection i)) (NoSuch subjects.Collection)
    ∷ answer_if (not (is_some (a.same_years description.class i))) (NoSuch subjects.Class)
    ∷ same_denied h k a day caller acts.Deposit (Some description.collection) (Some description.class) i
    ∷ option_map Taken (same_accession h k a description.accession i)
    ∷ closed_ahead_refusal day description.closed
    ∷ bad_bag bag.now
    ∷ answer_if (nat_le (a.same_max_deposits i) (same_count h k a i)) Full
    ∷ [])
same_refusal h k a day caller (ListDeposits collection class) = refl
same_refusal h k a day caller (Record n) = same_row_at h k a day caller acts.Record n (λ d. []) (λ d. []) (λ e d. refl)
same_refusal h k a day caller (Holds n) = same_row_at h k a day caller acts.Holds n (λ d. []) (λ d. []) (λ e d. refl)
same_refusal h k a day caller (DownloadBag n) = same_row_at h k a day caller acts.Download n (λ d. []) (λ d. []) (λ e d. refl)
same_refusal h k a day caller (DownloadFile n path) = same_row_at h k a day caller acts.Download n (λ d. no_file d path.now ∷ []) (λ d. no_file d path.now ∷ []) (λ e d. refl)
same_refusal h k a day caller (Audit n) = same_row_at h k a day caller acts.Audit n (λ d. []) (λ d. []) (λ e d. refl)
same_refusal h k a day caller (HoldDeposit n matter) =
    same_row_at h k a day caller acts.Hold n (λ d. full_of_holds h ∷ []) (λ d. full_of_holds k ∷ []) (λ e d i. same_full_of_holds h k a i ∷ [])
same_refusal h k a day caller (HoldCollection name matter) = λ i.
    first_some (
    answer_if (not (same_collection h k a name i)) (NoSuch subjects.Collection)
    ∷ same_denied h k a day caller acts.Hold (Some name) None i
    ∷ same_full_of_holds h k a i
    ∷ [])
same_refusal h k a day caller (HoldClass name matter) = λ i.
    first_some (
    answer_if (not (is_some (a.same_years name i))) (NoSuch subjects.Class)
    ∷ same_denied h k a day caller acts.Hold None (Some name) i
    ∷ same_full_of_holds h k a i
    ∷ [])
same_refusal h k a day caller (Release j) = λ i.
    first_some (of_hold (item_numbered (a.same_holds i) j) (λ hold. same_release h k a day caller hold.target i ∷ option_map Released (a.same_released j i) ∷ []))
same_refusal h k a day caller (Dispose n) =
    same_row_at h k a day caller acts.Dispose n (λ d. held_refusal h n d ∷ not_due_refusal h day d ∷ []) (λ d. held_refusal k n d ∷ not_due_refusal k day d ∷ [])
    (λ e d i. refusal_in (deciding.hold_verdict (slice_get (same_live h k a n d i) 0)) ∷ refusal_in (deciding.due_verdict day (same_due h k a d i)) ∷ [])
same_refusal h k a day caller DueList = refl

-- ---- answers

same_record : (h k : History) → Alike h k → (n : ℕ) (found : Date × Deposit) → record_of h n found ≡ record_of k n found
same_record h k a n found = λ i. record (record_of h n found) { due = same_due h k a found.1 i }

same_told_holds : (h k : History) → Alike h k → (n : ℕ) (deposit : Deposit) → told_holds h n deposit ≡ told_holds k n deposit
same_told_holds h k a n deposit = λ i.
    filter_map (λ j. option_map_or (λ found. Some (live_hold j found)) (item_numbered (a.same_holds i) j) None) (same_live h k a n deposit i)

same_listed : (h k : History) → Alike h k → (day : Date) (caller : List ℕ) (wanted : Wanted) (n : ℕ) → destruction_day h n ≡ None → listed_record h day caller wanted n ≡ listed_record k day caller wanted n
same_listed h k a day caller wanted n e = λ i.
    option_map_or (λ (found : Date × Deposit).
    if is_selected wanted.collection found.1.description.collection && is_selected wanted.class found.1.description.class && is_none (same_denied_at h k a day caller acts.List found.1 i)
    then Some (same_record h k a n found i) else None)
    (same_found h k a n e i) None

same_list : (h k : History) → Alike h k → (day : Date) (caller : List ℕ) (wanted : Wanted) → listed_records h day caller wanted ≡ listed_records k day caller wanted
same_list h k a day caller wanted =
    mapped_of_kept (λ n. is_none (destruction_day h n)) (listed_record h day caller wanted) (listed_record k day caller wanted) (numbers (length (deposits h)))
    (λ n e. same_listed h k a day caller wanted n (is_nothing (destruction_day h n) e))
    ∙ ap (filter_map (listed_record k day caller wanted)) (same_kept h k a)

same_due_list : (h k : History) → Alike h k → (day : Date) (caller : List ℕ) → due_list h day caller ≡ due_list k day caller
same_due_list h k a day caller = λ i. filter (λ n. is_none (same_refusal h k a day caller (Dispose n) i)) (same_kept h k a i)

-- of a deposit that is gone nothing is told
row_stops : (p : PolicyValue) (day : Date) (caller : List ℕ) (action : Action) (on : Date) (there : Option (Date × Deposit)) (r : Deposit → List (Option Refusal)) (x y : Answer)
    → answer_unless (row p day caller action (Some on) there r) x ≡ answer_unless (row p day caller action (Some on) there r) y
row_stops p day caller action on None r x y = refl
row_stops p day caller action on (Some found) r x y = by_Option (denied_outline p day caller action (outline found)) (λ none. rw none refl) (λ why is. rw is refl)

unless_gone : (p : PolicyValue) (day : Date) (caller : List ℕ) (action : Action) (gone : Option Date) (there : Option (Date × Deposit)) (r : Deposit → List (Option Refusal)) (x y : Answer) → (gone ≡ None → x ≡ y)
    → answer_unless (row p day caller action gone there r) x ≡ answer_unless (row p day caller action gone there r) y
unless_gone p day caller action None there r x y same = ap (answer_unless (row p day caller action None there r)) (same refl)
unless_gone p day caller action (Some on) there r x y same = row_stops p day caller action on there r x y

answer_at : (h k : History) → Alike h k → (day : Date) (caller : List ℕ) (action : Action) (n : ℕ) (r : Deposit → List (Option Refusal)) (x y : Answer) → (destruction_day h n ≡ None → x ≡ y)
    → answer_unless (row (policy h) day caller action (destruction_day h n) (deposit_numbered h n) r) x ≡ answer_unless (row (policy k) day caller action (destruction_day k n) (deposit_numbered k n) r) y
answer_at h k a day caller action n r x y same =
    unless_gone (policy h) day caller action (destruction_day h n) (deposit_numbered h n) r x y same
    ∙ ap (λ why. answer_unless why y) (same_row_at h k a day caller action n r r (λ e d. refl))

pub same_answer : (h k : History) → Alike h k → (day : Date) (caller : List ℕ) (request : Request) → answer h day caller request ≡ answer k day caller request
same_answer h k a day caller (DefineClass name years) = ap (λ why. answer_unless why (answers.Class name years)) (same_refusal h k a day caller (DefineClass name years))
same_answer h k a day caller (DefineCollection name) = ap (λ why. answer_unless why (answers.Collection name)) (same_refusal h k a day caller (DefineCollection name))
same_answer h k a day caller (MakeDeposit description bag) = λ i.
    answer_unless (same_refusal h k a day caller (MakeDeposit description bag) i) (answers.Deposited (same_count h k a i + 1))
same_answer h k a day caller (ListDeposits collection class) = ap answers.List (same_list h k a day caller (record { collection = collection; class = class }))
same_answer h k a day caller (Record n) =
    answer_at h k a day caller acts.Record n (λ d. []) (allowed_answer h day caller (Record n)) (allowed_answer k day caller (Record n))
    (λ e i. told_of (same_found h k a n e i) (λ found. answers.Record (same_record h k a n found i)))
same_answer h k a day caller (Holds n) =
    answer_at h k a day caller acts.Holds n (λ d. []) (allowed_answer h day caller (Holds n)) (allowed_answer k day caller (Holds n))
    (λ e i. told_of (same_found h k a n e i) (λ found. answers.Holds (same_told_holds h k a n found.1 i)))
same_answer h k a day caller (DownloadBag n) =
    answer_at h k a day caller acts.Download n (λ d. []) (allowed_answer h day caller (DownloadBag n)) (allowed_answer k day caller (DownloadBag n))
    (λ e i. told_of (same_found h k a n e i) (λ found. answers.Bag (set_text found.1.bag)))
same_answer h k a day caller (DownloadFile n path) =
    answer_at h k a day caller acts.Download n (λ d. no_file d path.now ∷ []) (allowed_answer h day caller (DownloadFile n path)) (allowed_answer k day caller (DownloadFile n path))
    (λ e i. told_of (same_found h k a n e i) (λ found. file_answer (content_at found.1.bag path.now)))
same_answer h k a day caller (Audit n) =
    answer_at h k a day caller acts.Audit n (λ d. []) (allowed_answer h day caller (Audit n)) (allowed_answer k day caller (Audit n))
    (λ e i. told_of (same_found h k a n e i) (λ found. answers.Audit n (audit_report (report_on found.1.bag))))
same_answer h k a day caller (HoldDeposit n matter) = λ i. answer_unless (same_refusal h k a day caller (HoldDeposit n matter) i) (answers.HoldPlaced (length (a.same_holds i) + 1))
same_answer h k a day caller (HoldCollection name matter) = λ i. answer_unless (same_refusal h k a day caller (HoldCollection name matter) i) (answers.HoldPlaced (length (a.same_holds i) + 1))
same_answer h k a day caller (HoldClass name matter) = λ i. answer_unless (same_refusal h k a day caller (HoldClass name matter) i) (answers.HoldPlaced (length (a.same_holds i) + 1))
same_answer h k a day caller (Release j) = ap (λ why. answer_unless why (answers.HoldReleased j day)) (same_refusal h k a day caller (Release j))
same_answer h k a day caller (Dispose n) = ap (λ why. answer_unless why (answers.Destroyed n day)) (same_refusal h k a day caller (Dispose n))
same_answer h k a day caller DueList = ap (answers.DueList day) (same_due_list h k a day caller)

-- ---- changes

same_allowed_change : (h k : History) → Alike h k → (day : Date) (request : Request) → allowed_change h day request ≡ allowed_change k day request
same_allowed_change h k a day (DefineCollection name) = ap (λ there. if there then [] else DefinedCollection day name ∷ []) (same_collection h k a name)
same_allowed_change h k a day _ = refl

same_change : (h k : History) → Alike h k → (day : Date) (caller : List ℕ) (request : Request) → change h day caller request ≡ change k day caller request
same_change h k a day caller request = λ i. changes_unless (same_refusal h k a day caller request i) (same_allowed_change h k a day request i)

pub alike_after : (h k : History) → Alike h k → (day : Date) (caller : List ℕ) (request : Request) → Alike (after h day caller request) (after k day caller request)
alike_after h k a day caller request =
    subst (λ (more : List Change). Alike (after h day caller request) (with_changes k more)) (same_change h k a day caller request) (alike_grown h k a (change h day caller request))
