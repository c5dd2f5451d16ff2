-- What is known of a history where an answer was given: which hold was placed, which was released, what is told.
use Rattle.office_history.proofs.FirstLemmas.{◌≡◌, ℕ, zero, suc, ◌+◌, List, [], ◌∷◌, ◌++◌, length, Option, Some, None, slice_get, refl, sym, ap, ◌∙◌, filter_map, cons_option, option_or, Decides-eqb, same_Some, Date, set_text, content_at, Answer, Refusal, Request, Record, Holds, DownloadBag, DownloadFile, Audit, HoldDeposit, HoldCollection, HoldClass, Release, DueList, first_said, item_numbered, History, Change, PlacedHold, ReleasedHold, Deposit, Hold, OnDeposit, OnCollection, OnClass, with_changes, deposit_numbered, holds, hold_numbered, release_day, released_in, live_holds, report_on, refusal, answer, answer_unless, allowed_answer, told_of, file_answer, record_of, told_hold, told_holds, audit_report, change, changes_unless, allowed_change, after, numbered_last, releasable, by_Option, one_hold}
use Rattle.office_core.specs.declared.answer.Answer.TheVariants as answers
use Rattle.office_core.specs.declared.answer.LiveHold.{LiveHold}
use Rattle.office_history.proofs.LawLemmas.{unrefused}
use Rattle.office_history.proofs.OnceLemmas.{not_among_live}

-- ---- holds that were placed

-- a hold was placed: it has the next number, and is the only change
pub record WasPlaced (h : History) (day : Date) (changes : List Change) (k : ℕ) : Type 0 where
  pub next_number : length (holds h) + 1 ≡ k
  pub hold : Hold
  pub placed : changes ≡ PlacedHold day hold ∷ []

-- what is told of a deposit is the number of no hold
told_no_number : (found : Option (Date × Deposit)) (tell : Date × Deposit → Answer) (k : ℕ) → ((d : Date × Deposit) → tell d ≡ answers.HoldPlaced k → ⊥) → told_of found tell ≡ answers.HoldPlaced k → ⊥
told_no_number None tell k other e = absurd cc
told_no_number (Some d) tell k other e = other d e

file_no_number : (content : Option (List ℕ)) (k : ℕ) → file_answer content ≡ answers.HoldPlaced k → ⊥
file_no_number None k e = absurd cc
file_no_number (Some content) k e = absurd cc

allowed_hold : (h : History) (day : Date) (caller : List ℕ) (request : Request) (k : ℕ) → allowed_answer h day caller request ≡ answers.HoldPlaced k → WasPlaced h day (allowed_change h day request) k
allowed_hold h day caller (HoldDeposit n matter) k e = record { next_number = (let same : answers.HoldPlaced (length (holds h) + 1) ≡ answers.HoldPlaced k = e in cc); hold = record { target = OnDeposit n; matter = matter }; placed = refl }
allowed_hold h day caller (HoldCollection name matter) k e = record { next_number = (let same : answers.HoldPlaced (length (holds h) + 1) ≡ answers.HoldPlaced k = e in cc); hold = record { target = OnCollection name; matter = matter }; placed = refl }
allowed_hold h day caller (HoldClass name matter) k e = record { next_number = (let same : answers.HoldPlaced (length (holds h) + 1) ≡ answers.HoldPlaced k = e in cc); hold = record { target = OnClass name; matter = matter }; placed = refl }
allowed_hold h day caller (Record n) k e = absurd (told_no_number (deposit_numbered h n) (λ d. answers.Record (record_of h n d)) k (λ d. λ wrong. absurd cc) e)
allowed_hold h day caller (Holds n) k e = absurd (told_no_number (deposit_numbered h n) (λ d. answers.Holds (told_holds h n d.1)) k (λ d. λ wrong. absurd cc) e)
allowed_hold h day caller (DownloadBag n) k e = absurd (told_no_number (deposit_numbered h n) (λ d. answers.Bag (set_text d.1.bag)) k (λ d. λ wrong. absurd cc) e)
allowed_hold h day caller (DownloadFile n path) k e = absurd (told_no_number (deposit_numbered h n) (λ d. file_answer (content_at d.1.bag path.now)) k (λ d. file_no_number (content_at d.1.bag path.now) k) e)
allowed_hold h day caller (Audit n) k e = absurd (told_no_number (deposit_numbered h n) (λ d. answers.Audit n (audit_report (report_on d.1.bag))) k (λ d. λ wrong. absurd cc) e)
allowed_hold h day caller _ k e = absurd cc

pub was_placed : (h : History) (day : Date) (caller : List ℕ) (request : Request) (k : ℕ) → answer h day caller request ≡ answers.HoldPlaced k → WasPlaced h day (change h day caller request) k
was_placed h day caller request k e =
    let r = unrefused (refusal h day caller request) (allowed_answer h day caller request) (answers.HoldPlaced k) e (λ r. λ wrong. absurd cc) in
    let made = allowed_hold h day caller request k r.1 in
    record { next_number = made.next_number; hold = made.hold; placed = ap (λ why. changes_unless why (allowed_change h day request)) r.0 ∙ made.placed }

-- the holds after a hold was placed
pub holds_after : (h : History) (day : Date) (changes : List Change) (hold : Hold) → changes ≡ PlacedHold day hold ∷ [] → holds (with_changes h changes) ≡ holds h ++ (day, hold) ∷ []
holds_after h day changes hold e = ap (λ (c : List Change). holds (with_changes h c)) e ∙ one_hold h day hold [] refl

-- a hold that was answered with a number has that number
hold_there : (h : History) (day : Date) (caller : List ℕ) (request : Request) (hold : Hold) (k : ℕ) → answer_unless (refusal h day caller request) (answers.HoldPlaced (length (holds h) + 1)) ≡ answers.HoldPlaced k
    → item_numbered (holds (with_changes h (changes_unless (refusal h day caller request) (PlacedHold day hold ∷ [])))) k ≡ Some (day, hold)
hold_there h day caller request hold k e =
    let r = unrefused (refusal h day caller request) (answers.HoldPlaced (length (holds h) + 1)) (answers.HoldPlaced k) e (λ r. λ wrong. absurd cc) in
    let next : length (holds h) + 1 ≡ k = (let same = r.1 in cc) in
    ap (λ ds. item_numbered ds k) (holds_after h day (changes_unless (refusal h day caller request) (PlacedHold day hold ∷ [])) hold (ap (λ why. changes_unless why (PlacedHold day hold ∷ [])) r.0))
    ∙ ap (λ m. item_numbered (holds h ++ (day, hold) ∷ []) m) (sym next) ∙ numbered_last (holds h) (day, hold)

-- the hold of a collection that was answered with a number has that number
pub collection_hold : (h : History) (day : Date) (caller name matter : List ℕ) (k : ℕ) → answer h day caller (HoldCollection name matter) ≡ answers.HoldPlaced k
    → hold_numbered (after h day caller (HoldCollection name matter)) k ≡ Some (day, record { target = OnCollection name; matter = matter })
collection_hold h day caller name matter k e = hold_there h day caller (HoldCollection name matter) (record { target = OnCollection name; matter = matter }) k e

-- and so has the hold of a class
pub class_hold : (h : History) (day : Date) (caller name matter : List ℕ) (k : ℕ) → answer h day caller (HoldClass name matter) ≡ answers.HoldPlaced k
    → hold_numbered (after h day caller (HoldClass name matter)) k ≡ Some (day, record { target = OnClass name; matter = matter })
class_hold h day caller name matter k e = hold_there h day caller (HoldClass name matter) (record { target = OnClass name; matter = matter }) k e

-- ---- holds that were released

none_or : {B : Type 0} (o p : Option B) → option_or o p ≡ None → (o ≡ None) × (p ≡ None)
none_or None p e = (refl, e)
none_or (Some b) p e = absurd cc

first_said_last : {A B : Type 0} (says : A → Option B) (xs : List A) (y : A) (b : B) → first_said says xs ≡ None → says y ≡ Some b → first_said says (xs ++ y ∷ []) ≡ Some b
first_said_last says [] y b none e = rw e refl
first_said_last says (x ∷ xs) y b none e =
    let two = none_or (says x) (first_said says xs) none in
    ap (λ o. option_or o (first_said says (xs ++ y ∷ []))) two.0 ∙ first_said_last says xs y b two.1 e

-- a hold whose release was answered is released from that day
pub was_released : (h : History) (day on : Date) (caller : List ℕ) (k number : ℕ) → answer h day caller (Release k) ≡ answers.HoldReleased number on → release_day (after h day caller (Release k)) k ≡ Some day
was_released h day on caller k number e =
    let r = unrefused (refusal h day caller (Release k)) (answers.HoldReleased k day) (answers.HoldReleased number on) e (λ r. λ wrong. absurd cc) in
    let says : released_in k (ReleasedHold day k) ≡ Some day = rw ((Decides-eqb k k).1 refl) refl in
    ap (λ why. release_day (with_changes h (changes_unless why (ReleasedHold day k ∷ []))) k) r.0
    ∙ first_said_last (released_in k) h.changes (ReleasedHold day k) day (releasable h day caller k r.0).live says

-- what is told comes from an item of the list
mapped_from : {A B : Type 0} (f : A → Option B) (xs : List A) (i : ℕ) (y : B) → slice_get (filter_map f xs) i ≡ Some y → (j : ℕ) × (x : A) × (slice_get xs j ≡ Some x) × (f x ≡ Some y)
mapped_from f [] i y e = absurd cc
mapped_from {A = A} {B = B} f (x ∷ xs) i y e = by_first (f x) refl i e (λ j at. mapped_from f xs j y at)
  where
    by_first : (o : Option B) → f x ≡ o → (i : ℕ) → slice_get (cons_option o (filter_map f xs)) i ≡ Some y
        → ((l : ℕ) → slice_get (filter_map f xs) l ≡ Some y → (j : ℕ) × (z : A) × (slice_get xs j ≡ Some z) × (f z ≡ Some y))
        → (j : ℕ) × (z : A) × (slice_get (x ∷ xs) j ≡ Some z) × (f z ≡ Some y)
    by_first None is i e later = let found = later i e in (suc found.0, found.1, found.2, found.3)
    by_first (Some z) is zero e later = (zero, x, refl, is ∙ e)
    by_first (Some z) is (suc l) e later = let found = later l e in (suc found.0, found.1, found.2, found.3)

told_number : (h : History) (k : ℕ) (hold : LiveHold) → told_hold h k ≡ Some hold → k ≡ hold.number
told_number h k hold e =
    by_Option (hold_numbered h k) (λ none. absurd (let told = rw none at e in cc)) (λ found is. ap (λ (x : LiveHold). x.number) (same_Some _ _ (rw is at e)))

-- a hold that was released is in no list of holds that is answered
pub not_told : (h : History) (day on : Date) (caller : List ℕ) (k n place : ℕ) (given : List LiveHold) (hold : LiveHold)
    → release_day h k ≡ Some on → answer h day caller (Holds n) ≡ answers.Holds given → slice_get given place ≡ Some hold → hold.number ≡ k → ⊥
not_told h day on caller k n place given hold dead e at same =
    let r = unrefused (refusal h day caller (Holds n)) (allowed_answer h day caller (Holds n)) (answers.Holds given) e (λ r. λ wrong. absurd cc) in
    by_Option (deposit_numbered h n) (λ none. let told = rw none at r.1 in cc)
    (λ found there.
    let told = rw there at r.1 in
    let is : told_holds h n found.1 ≡ given = cc in
    let from = mapped_from (told_hold h) (live_holds h n found.1) place hold (ap (λ hs. slice_get hs place) is ∙ at) in
    not_among_live h k from.0 n on found.1 dead (from.2 ∙ ap Some (told_number h from.1 hold from.3 ∙ same)))

-- ---- refusals

told_refused : (h : History) (day : Date) (caller : List ℕ) (request : Request) (why : Refusal) → allowed_answer h day caller request ≡ answers.Refused why → allowed_change h day request ≡ []
told_refused h day caller DueList why e = cc
told_refused h day caller _ why e = cc

-- an answer that is a refusal makes no change
pub refused_change : (h : History) (day : Date) (caller : List ℕ) (request : Request) (why : Refusal) → answer h day caller request ≡ answers.Refused why → change h day caller request ≡ []
refused_change h day caller request why e =
    by_Option (refusal h day caller request) (λ none. rw none (told_refused h day caller request why (rw none at e))) (λ r is. rw is refl)
