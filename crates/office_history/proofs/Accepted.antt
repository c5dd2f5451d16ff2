-- Where a request is allowed its change is one that the history allows; so what each such change keeps, each legal history has.
use Rattle.office_history.proofs.Common.{◌≡◌, ◌≤ℤ◌, ℕ, pos, ◌<◌, Bool, true, false, not, List, [], ◌∷◌, ◌++◌, length, Option, Some, None, Result, Ok, Err, IsSome, slice_get, int_lt, refl, sym, ap, subst, ◌∙◌, append-nil, arith, rules, nat_le, nat_tests, Date, epoch_day, File, IsLimit, IsDay, Description, IsDescription, first_some, answer_if, IsRequest, Due, On, Never, Refusal, Full, NotDue, Request, DefineClass, DefineCollection, HoldDeposit, HoldCollection, HoldClass, Release, Dispose, History, Change, Installed, Deposited, PlacedHold, Deposit, Hold, with_changes, has_class, has_collection, deposits, deposit_numbered, accession_of, destruction_day, due, holds, hold_numbered, release_day, live_holds, least_hold, bag_of, refusal_in, refusal, bad_as, of_deposit, denial, denial_at, release_denial, gone_refusal, released_refusal, held_refusal, not_due_refusal, no_such_collection, no_such_class, taken_refusal, closed_ahead_refusal, bad_bag, full_of_deposits, full_of_holds, filing_refusals, bag_refusals, changes_unless, allowed_change, deposit_change, IsChange, IsAllowed, IsHold, IsDepositable, IsPlaceable, IsReleasable, IsDisposable, IsLegal, new_history, new, install, step, none_of, answer_if_none, option_map_none, by_Bool, by_Option}
use Rattle.std.proofs.lemmas.Int.{by_lt_z}
use Rattle.office_core.specs.declared.action.Action.TheVariants as acts
use Rattle.office_core.specs.Verdicts as deciding
use Rattle.office_core.specs.declared.request.Request.TheVariants.{Deposit as MakeDeposit}
use Rattle.office_history.proofs.HistoryLemmas.{one_deposit, one_hold, same_deposits, same_holds}

-- ---- where no refusal applies

is_so : {A : Type 0} (test : Bool) (x : A) → answer_if (not test) x ≡ None → test ≡ true
is_so true x e = refl
is_so false x e = absurd cc

below : (most count : ℕ) → answer_if (nat_le most count) Full ≡ None → count < most
below most count e = let no = answer_if_none (nat_le most count) Full e in grind (arith, nat_tests)

not_later : (day date : Date) → int_lt (epoch_day day) (epoch_day date) ≡ false → epoch_day date ≤ℤ epoch_day day
not_later day date passed =
    by_lt_z (epoch_day day) (epoch_day date)
    (λ lt. let before : int_lt (epoch_day day) (epoch_day date) ≡ true = search (rules, lt) in absurd (let wrong : true ≡ false = sym before ∙ passed in cc))
    (λ ge. ge)

not_before : (day date : Date) → refusal_in (answer_if (int_lt (epoch_day day) (epoch_day date)) (NotDue date)) ≡ None → epoch_day date ≤ℤ epoch_day day
not_before day date e = not_later day date (by_Bool (int_lt (epoch_day day) (epoch_day date)) (λ early. absurd (let wrong = rw early at e in cc)) (λ past. past))

pub not_gone : (o : Option Date) → refusal_in (deciding.gone_verdict o) ≡ None → o ≡ None
not_gone None e = refl
not_gone (Some day) e = absurd cc

not_held : (o : Option ℕ) → refusal_in (deciding.hold_verdict o) ≡ None → o ≡ None
not_held None e = refl
not_held (Some k) e = absurd cc

none_first : (ks : List ℕ) → slice_get ks 0 ≡ None → ks ≡ []
none_first [] e = refl
none_first (k ∷ ks) e = absurd cc

good_bag : (r : Result (List File) (List ℕ)) → bad_as r ≡ None → (bag : List File) × (r ≡ Ok bag)
good_bag (Ok bag) e = (bag, refl)
good_bag (Err fault) e = absurd cc

due_has_come : (day : Date) (d : Due) → refusal_in (deciding.due_verdict day d) ≡ None → (date : Date) × (d ≡ On date) × (epoch_day date ≤ℤ epoch_day day)
due_has_come day (On date) e = (date, refl, not_before day date e)
due_has_come day Never e = absurd cc

-- ---- what a request that is allowed finds

pub depositable : (h : History) (day : Date) (caller : List ℕ) (description : Description) (form : List ℕ)
    → first_some (filing_refusals h day caller description ++ bag_refusals h day description form) ≡ None
    → (bag : List File) × (bag_of form ≡ Ok bag) × IsDepositable h day (record { description = description; bag = bag })
depositable h day caller description form e =
    let a = none_of (no_such_collection h description.collection) _ e in
    let b = none_of (no_such_class h description.class) _ a.1 in
    let c = none_of (denial h day caller acts.Deposit (Some description.collection) (Some description.class)) _ b.1 in
    let d = none_of (taken_refusal h description.accession) _ c.1 in
    let f = none_of (closed_ahead_refusal day description.closed) _ d.1 in
    let g = none_of (bad_bag form) _ f.1 in
    let i = none_of (full_of_deposits h) _ g.1 in
    let bag = good_bag (bag_of form) g.0 in (
      bag.0,
      bag.1,
      record {
        collection = is_so (has_collection h description.collection) _ a.0;
        class = is_so (has_class h description.class) _ b.0;
        new_accession = option_map_none _ (accession_of h description.accession) d.0;
        closed = not_later day description.closed (answer_if_none _ _ f.0);
        form = form;
        read = bag.1;
        room = below h.max_deposits (length (deposits h)) i.0;
      },
    )

pub disposable : (h : History) (day : Date) (caller : List ℕ) (n : ℕ) → refusal h day caller (Dispose n) ≡ None → IsDisposable h day n
disposable h day caller n e =
    by_Option (deposit_numbered h n) (λ none. absurd (let refused = rw none at e in cc))
    (λ found is.
    let allowed = none_of (denial_at h day caller acts.Dispose found.1) _ (rw is at e) in
    let there = none_of (gone_refusal h n) _ allowed.1 in
    let free = none_of (held_refusal h n found.1) _ there.1 in
    let late = none_of (not_due_refusal h day found.1) _ free.1 in
    let come = due_has_come day (due h found.1) late.0 in
    record {
      found = found;
      date = come.0;
      there = is;
      kept = not_gone (destruction_day h n) there.0;
      unheld = none_first (live_holds h n found.1) (not_held (least_hold h n found.1) free.0);
      due = come.1;
      has_come = come.2;
    })

holdable_at : (h : History) (day : Date) (caller : List ℕ) (n : ℕ) (there : Option (Date × Deposit)) → deposit_numbered h n ≡ there
    → first_some (of_deposit there (λ d. denial_at h day caller acts.Hold d ∷ gone_refusal h n ∷ full_of_holds h ∷ [])) ≡ None → IsSome (deposit_numbered h n) × (destruction_day h n ≡ None) × (length (holds h) < h.max_holds)
holdable_at h day caller n None is e = absurd cc
holdable_at h day caller n (Some found) is e =
    let a = none_of (denial_at h day caller acts.Hold found.1) _ e in
    let b = none_of (gone_refusal h n) _ a.1 in
    let c = none_of (full_of_holds h) _ b.1 in
    (rw is refl, not_gone (destruction_day h n) b.0, below h.max_holds (length (holds h)) c.0)

pub releasable : (h : History) (day : Date) (caller : List ℕ) (k : ℕ) → refusal h day caller (Release k) ≡ None → IsReleasable h k
releasable h day caller k e =
    by_Option (hold_numbered h k) (λ none. absurd (let refused = rw none at e in cc))
    (λ found is.
    let a = none_of (release_denial h day caller found.1.target) _ (rw is at e) in
    let b = none_of (released_refusal h k) _ a.1 in
    record { found = found; there = is; live = option_map_none _ (release_day h k) b.0 })

-- ---- the change that it makes

-- of changes that are one at most: it is so
abbrev pub AtMostOne : (Change → Type 0) → List Change → Type 0
AtMostOne P [] = Unit {0}
AtMostOne P (c ∷ []) = P c
AtMostOne P (c ∷ d ∷ more) = ⊥

pub allowed_of : (h : History) (day : Date) (caller : List ℕ) (request : Request) → refusal h day caller request ≡ None → AtMostOne (IsAllowed h) (allowed_change h day request)
allowed_of h day caller (DefineCollection name) e = by_Bool (has_collection h name) (λ there. rw there tt) (λ new. rw new new)
allowed_of h day caller (MakeDeposit description bag) e =
    let found = depositable h day caller description bag.now e in
    subst (λ (r : Result (List File) (List ℕ)). AtMostOne (IsAllowed h) (deposit_change day description r)) (sym found.1) found.2
allowed_of h day caller (HoldDeposit n matter) e =
    let found = holdable_at h day caller n (deposit_numbered h n) refl e in
    record { there = found.0; not_gone = found.1; room = found.2 }
allowed_of h day caller (HoldCollection name matter) e =
    let a = none_of (no_such_collection h name) _ e in
    let b = none_of (denial h day caller acts.Hold (Some name) None) _ a.1 in
    let c = none_of (full_of_holds h) _ b.1 in
    record { there = is_so (has_collection h name) _ a.0; not_gone = tt; room = below h.max_holds (length (holds h)) c.0 }
allowed_of h day caller (HoldClass name matter) e =
    let a = none_of (no_such_class h name) _ e in
    let b = none_of (denial h day caller acts.Hold None (Some name)) _ a.1 in
    let c = none_of (full_of_holds h) _ b.1 in
    record { there = is_so (has_class h name) _ a.0; not_gone = tt; room = below h.max_holds (length (holds h)) c.0 }
allowed_of h day caller (Release k) e = releasable h day caller k e
allowed_of h day caller (Dispose n) e = disposable h day caller n e
allowed_of h day caller _ e = tt

-- what a request in range changes is in range
pub ranged_of : (h : History) (day : Date) (request : Request) → IsDay day → IsRequest request → AtMostOne IsChange (allowed_change h day request)
ranged_of h day (DefineClass name years) in_day asked = (in_day, asked.0, asked.1)
ranged_of h day (DefineCollection name) in_day asked = by_Bool (has_collection h name) (λ there. rw there tt) (λ new. rw new (in_day, asked))
ranged_of h day (MakeDeposit description bag) in_day asked = by (bag_of bag.now)
  where
    by : (r : Result (List File) (List ℕ)) → AtMostOne IsChange (deposit_change day description r)
    by (Ok files) = (in_day, asked)
    by (Err fault) = tt
ranged_of h day (HoldDeposit n matter) in_day asked = (in_day, record { target = tt; matter = asked })
ranged_of h day (HoldCollection name matter) in_day asked = (in_day, record { target = asked.0; matter = asked.1 })
ranged_of h day (HoldClass name matter) in_day asked = (in_day, record { target = asked.0; matter = asked.1 })
ranged_of h day (Release k) in_day asked = in_day
ranged_of h day (Dispose n) in_day asked = in_day
ranged_of h day _ in_day asked = tt

-- ---- what each change keeps, each legal history has

pub grown_by_none : (h : History) → h ≡ with_changes h []
grown_by_none h = ap (λ (changes : List Change). record h { changes = changes }) (sym (append-nil h.changes))

-- a change that is in range, and that the history allows
abbrev pub IsAccepted : History → Change → Type 0
IsAccepted h c = IsChange c × IsAllowed h c

after_change : (P : History → Type 0) (h : History) (day : Date) (caller : List ℕ) (request : Request)
    → IsDay day → IsRequest request → ((c : Change) → IsAccepted h c → P (with_changes h (c ∷ []))) → P h
    → (why : Option Refusal) → refusal h day caller request ≡ why → P (with_changes h (changes_unless why (allowed_change h day request)))
after_change P h day caller request in_day asked more here (Some why) is = subst P (grown_by_none h) here
after_change P h day caller request in_day asked more here None is =
    by (allowed_change h day request) (ranged_of h day request in_day asked) (allowed_of h day caller request is)
  where
    by : (changes : List Change) → AtMostOne IsChange changes → AtMostOne (IsAllowed h) changes → P (with_changes h changes)
    by [] ranged allowed = subst P (grown_by_none h) here
    by (c ∷ []) ranged allowed = more c (ranged, allowed)
    by (c ∷ d ∷ rest) ranged allowed = absurd ranged

pub legal_by : (P : History → Type 0)
    → ((max_deposits max_holds : ℕ) → IsLimit (pos max_deposits) → IsLimit (pos max_holds) → P (new_history max_deposits max_holds))
    → ((h : History) (c : Change) → IsLegal h → IsAccepted h c → P h → P (with_changes h (c ∷ [])))
    → (h : History) → IsLegal h → P h
legal_by P begun more h (new a b a_in b_in) = begun a b a_in b_in
legal_by P begun more h (install before policy is legal) = more before (Installed policy) legal (is, tt) (legal_by P begun more before legal)
legal_by P begun more h (step before day caller request in_day asked legal) =
    after_change P before day caller request in_day asked (λ c ok. more before c legal ok (legal_by P begun more before legal)) (legal_by P begun more before legal) (refusal before day caller request) refl

-- the deposits after a change: those before, or one more
pub deposits_by : (P : List (Date × Deposit) → Type 0) (x : History) (c : Change) → IsAccepted x c → P (deposits x)
    → ((day : Date) (deposit : Deposit) → IsDay day × IsDescription deposit.description → IsDepositable x day deposit → P (deposits x ++ (day, deposit) ∷ []))
    → P (deposits (with_changes x (c ∷ [])))
deposits_by P x (Deposited day deposit) ok here made = subst P (sym (one_deposit x day deposit [] refl)) (made day deposit ok.0 ok.1)
deposits_by P x c ok here made = subst P (sym (same_deposits x (c ∷ []) refl)) here

-- the holds after a change, likewise
pub holds_by : (P : List (Date × Hold) → Type 0) (x : History) (c : Change) → IsAccepted x c → P (holds x)
    → ((day : Date) (hold : Hold) → IsDay day × IsHold hold → IsPlaceable x hold → P (holds x ++ (day, hold) ∷ []))
    → P (holds (with_changes x (c ∷ [])))
holds_by P x (PlacedHold day hold) ok here made = subst P (sym (one_hold x day hold [] refl)) (made day hold ok.0 ok.1)
holds_by P x c ok here made = subst P (sym (same_holds x (c ∷ []) refl)) here
