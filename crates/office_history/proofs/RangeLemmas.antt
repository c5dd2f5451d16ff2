-- Each legal history: its limits hold, its accessions are used once, what is named is there, and its deposits, holds and changes are in range.
use Rattle.office_history.proofs.FirstLemmas.{◌≡◌, ◌<◌, ◌≤◌, ◌≤ℤ◌, ℕ, true, List, [], ◌∷◌, ◌++◌, length, length-append, Option, Some, None, is_some, refl, ap, subst, ◌∙◌, arith, bytes_eq, AllByRecursion, filter_map, list_any, option_or, filter_map-append, or_left, same_Some, cond_some, bytes_eq-Decides, Date, epoch_day, IsDay, IsDescription, IsName, IsYears, first_said, last_said, History, Change, DefinedClass, DefinedCollection, ReleasedHold, Destroyed, Target, OnDeposit, OnCollection, OnClass, Deposit, Hold, with_changes, years_in, years_of, has_class, collection_in, collections, has_collection, deposits, deposit_numbered, destroyed_in, destruction_day, holds, released_in, release_day, IsChange, IsHold, IsThere, IsLegal, IsWithin, all_append, all_weaker, all_said, some_behind, last_said-append, legal_by, deposits_by, holds_by, by_Option, no_deposit_before, zero, suc, sym, inl, inr, position, true≢false, item_numbered, IsSound, numbered_cases, none_passes, option_map_none}
use Rattle.std.proofs.lemmas.List.Folds.{list_any-append}
use Rattle.office_history.proofs.LegalLemmas.{Reads, Judges, sound_bag}
use Rattle.office_history.specs.Acceptance.{IsDepositable, IsPlaceable}

-- ---- the limits

one_more : {A : Type 0} (xs : List A) (x : A) (most : ℕ) → length xs < most → length (xs ++ x ∷ []) ≤ most
one_more xs x most room = rw (length-append xs (x ∷ [])) (omega arith)

pub limits_hold : (h : History) → IsLegal h → IsWithin h
limits_hold h legal =
    legal_by IsWithin
    (λ a b a_in b_in. record { deposits_in = omega arith; holds_in = omega arith; deposits_limit = a_in; holds_limit = b_in })
    (λ x c was ok within. record {
      deposits_in = deposits_by (λ found. length found ≤ x.max_deposits) x c ok within.deposits_in (λ day deposit ranged allowed. one_more (deposits x) (day, deposit) x.max_deposits allowed.room);
      holds_in = holds_by (λ found. length found ≤ x.max_holds) x c ok within.holds_in (λ day hold ranged allowed. one_more (holds x) (day, hold) x.max_holds allowed.room);
      deposits_limit = within.deposits_limit;
      holds_limit = within.holds_limit;
    })
    h legal

-- ---- each deposit, and each hold

abbrev pub IsDeposited : Date × Deposit → Type 0
IsDeposited found = IsDay found.0 × IsDescription found.1.description

abbrev pub IsPlaced : Date × Hold → Type 0
IsPlaced found = IsDay found.0 × IsHold found.1

-- what each deposit has that is allowed, and what stays so, each deposit has
each_deposit : (P : History → Date × Deposit → Type 0) → ((h : History) (more : List Change) (found : Date × Deposit) → P h found → P (with_changes h more) found)
    → ((h : History) (day : Date) (deposit : Deposit) → IsDeposited (day, deposit) → IsDepositable h day deposit → P h (day, deposit)) → (h : History) → IsLegal h → AllByRecursion (P h) (deposits h)
each_deposit P stays made =
    legal_by (λ x. AllByRecursion (P x) (deposits x)) (λ a b a_in b_in. tt) (λ x c was ok all.
    let next = with_changes x (c ∷ []) in
    let still = all_weaker (P x) (P next) (stays x (c ∷ [])) (deposits x) all in
    deposits_by (AllByRecursion (P next)) x c ok still
    (λ day deposit ranged allowed. all_append (P next) (deposits x) ((day, deposit) ∷ []) still (stays x (c ∷ []) (day, deposit) (made x day deposit ranged allowed), tt)))

-- and so of holds
each_hold : (P : History → Date × Hold → Type 0) → ((h : History) (more : List Change) (found : Date × Hold) → P h found → P (with_changes h more) found)
    → ((h : History) (day : Date) (hold : Hold) → IsPlaced (day, hold) → IsPlaceable h hold → P h (day, hold)) → (h : History) → IsLegal h → AllByRecursion (P h) (holds h)
each_hold P stays made =
    legal_by (λ x. AllByRecursion (P x) (holds x)) (λ a b a_in b_in. tt) (λ x c was ok all.
    let next = with_changes x (c ∷ []) in
    let still = all_weaker (P x) (P next) (stays x (c ∷ [])) (holds x) all in
    holds_by (AllByRecursion (P next)) x c ok still
    (λ day hold ranged allowed. all_append (P next) (holds x) ((day, hold) ∷ []) still (stays x (c ∷ []) (day, hold) (made x day hold ranged allowed), tt)))

pub ranged_deposits : (h : History) → IsLegal h → AllByRecursion IsDeposited (deposits h)
ranged_deposits = each_deposit (λ h. IsDeposited) (λ h more found is. is) (λ h day deposit ranged allowed. ranged)

pub ranged_holds : (h : History) → IsLegal h → AllByRecursion IsPlaced (holds h)
ranged_holds = each_hold (λ h. IsPlaced) (λ h more found is. is) (λ h day hold ranged allowed. ranged)

abbrev pub WasClosed : Date × Deposit → Type 0
WasClosed found = epoch_day found.1.description.closed ≤ℤ epoch_day found.0

pub closed_deposits : (h : History) → IsLegal h → AllByRecursion WasClosed (deposits h)
closed_deposits = each_deposit (λ h. WasClosed) (λ h more found is. is) (λ h day deposit ranged allowed. allowed.closed)

abbrev pub HasSoundBag : Date × Deposit → Type 0
HasSoundBag found = IsSound found.1.bag

pub sound_deposits : Reads → Judges → (h : History) → IsLegal h → AllByRecursion HasSoundBag (deposits h)
sound_deposits reads judges = each_deposit (λ h. HasSoundBag) (λ h more found is. is) (λ h day deposit ranged allowed. sound_bag reads judges allowed.form deposit.bag allowed.read)

-- ---- accessions

-- two deposits of a list with one accession are one
abbrev pub AreApart : List (Date × Deposit) → Type 0
AreApart ds = (n m : ℕ) (a b : Date × Deposit) → item_numbered ds n ≡ Some a → item_numbered ds m ≡ Some b → a.1.description.accession ≡ b.1.description.accession → n ≡ m

-- no deposit of the list has the accession
unused : (ds : List (Date × Deposit)) (accession : List ℕ) (n : ℕ) (a : Date × Deposit) → position (λ (d : Date × Deposit). bytes_eq d.1.description.accession accession) ds ≡ None → item_numbered ds n ≡ Some a → a.1.description.accession ≡ accession → ⊥
unused ds accession zero a none at same = absurd cc
unused ds accession (suc place) a none at same =
    true≢false (sym ((bytes_eq-Decides a.1.description.accession accession).1 same) ∙ none_passes (λ (d : Date × Deposit). bytes_eq d.1.description.accession accession) ds place a none at)

apart_added : (ds : List (Date × Deposit)) (added : Date × Deposit) → AreApart ds → position (λ (d : Date × Deposit). bytes_eq d.1.description.accession added.1.description.accession) ds ≡ None → AreApart (ds ++ added ∷ [])
apart_added ds added apart none n m a b at_n at_m same =
    elim (numbered_cases ds added n a at_n) [
      | inl old_n ↦ elim (numbered_cases ds added m b at_m) [
        | inl old_m ↦ apart n m a b old_n old_m same
        | inr new_m ↦ absurd (unused ds added.1.description.accession n a none old_n (same ∙ ap (λ (d : Date × Deposit). d.1.description.accession) (sym new_m.1)))
      ]
      | inr new_n ↦ elim (numbered_cases ds added m b at_m) [
        | inl old_m ↦ absurd (unused ds added.1.description.accession m b none old_m (sym same ∙ ap (λ (d : Date × Deposit). d.1.description.accession) (sym new_n.1)))
        | inr new_m ↦ new_n.0 ∙ sym new_m.0
      ]
    ]

none_apart : AreApart []
none_apart zero m a b at_n at_m same = absurd cc
none_apart (suc n) m a b at_n at_m same = absurd cc

pub accessions_apart : (h : History) → IsLegal h → AreApart (deposits h)
accessions_apart h legal =
    legal_by (λ x. AreApart (deposits x)) (λ a b a_in b_in. none_apart) (λ x c was ok apart.
    deposits_by AreApart x c ok apart (λ day deposit ranged allowed. apart_added (deposits x) (day, deposit) apart (option_map_none _ _ allowed.new_accession))) h legal

-- ---- all changes are in range

pub ranged_changes : (h : History) → IsLegal h → AllByRecursion IsChange h.changes
ranged_changes h legal =
    legal_by (λ x. AllByRecursion IsChange x.changes) (λ a b a_in b_in. tt)
    (λ x c was ok all. all_append IsChange x.changes (c ∷ []) all (ok.0, tt)) h legal

-- what changes in range say is in range, where what each says is
abbrev pub Says : {B : Type 0} → (Change → Option B) → (B → Type 0) → Type 0
Says {B = B} says P = (c : Change) → IsChange c → (b : B) → says c ≡ Some b → P b

either : {B : Type 0} (P : B → Type 0) (o p : Option B) → ((b : B) → o ≡ Some b → P b) → ((b : B) → p ≡ Some b → P b) → (b : B) → option_or o p ≡ Some b → P b
either P None p first rest b e = rest b e
either P (Some x) p first rest b e = first b e

first_ranged : {B : Type 0} (says : Change → Option B) (P : B → Type 0) → Says says P → (cs : List Change) → AllByRecursion IsChange cs → (b : B) → first_said says cs ≡ Some b → P b
first_ranged says P so [] all b e = absurd cc
first_ranged says P so (c ∷ cs) all b e = either P (says c) (first_said says cs) (so c all.0) (first_ranged says P so cs all.1) b e

last_ranged : {B : Type 0} (says : Change → Option B) (P : B → Type 0) → Says says P → (cs : List Change) → AllByRecursion IsChange cs → (b : B) → last_said says cs ≡ Some b → P b
last_ranged says P so [] all b e = absurd cc
last_ranged says P so (c ∷ cs) all b e = either P (last_said says cs) (says c) (last_ranged says P so cs all.1) (so c all.0) b e

gone_day : (n : ℕ) → Says (destroyed_in n) IsDay
gone_day n (Destroyed day m) ranged b e = subst IsDay (cond_some _ day b e).1 ranged
gone_day n _ ranged b e = absurd cc

released_day : (k : ℕ) → Says (released_in k) IsDay
released_day k (ReleasedHold day j) ranged b e = subst IsDay (cond_some _ day b e).1 ranged
released_day k _ ranged b e = absurd cc

-- the years of a class that is there, and its name
class_years : (name : List ℕ) → Says (years_in name) (λ years. IsName name × IsYears years)
class_years name (DefinedClass day class years) ranged b e =
    let found = cond_some (bytes_eq class name) years b e in
    (subst IsName ((bytes_eq-Decides class name).0 found.0) ranged.1, subst IsYears found.1 ranged.2)
class_years name _ ranged b e = absurd cc

collection_name : Says collection_in IsName
collection_name (DefinedCollection day name) ranged b e = subst IsName (same_Some _ _ e) ranged.1
collection_name _ ranged b e = absurd cc

pub gone_days : (h : History) → IsLegal h → (n : ℕ) (day : Date) → destruction_day h n ≡ Some day → IsDay day
gone_days h legal n = first_ranged (destroyed_in n) IsDay (gone_day n) h.changes (ranged_changes h legal)

pub released_days : (h : History) → IsLegal h → (k : ℕ) (day : Date) → release_day h k ≡ Some day → IsDay day
released_days h legal k = first_ranged (released_in k) IsDay (released_day k) h.changes (ranged_changes h legal)

pub named_classes : (h : History) → IsLegal h → (name : List ℕ) (years : Option ℕ) → years_of h name ≡ Some years → IsName name × IsYears years
named_classes h legal name = last_ranged (years_in name) (λ years. IsName name × IsYears years) (class_years name) h.changes (ranged_changes h legal)

pub named_collections : (h : History) → IsLegal h → AllByRecursion IsName (collections h)
named_collections h legal = all_said IsChange IsName collection_in collection_name h.changes (ranged_changes h legal)

-- ---- what is named is there

class_stays : (h : History) (more : List Change) (name : List ℕ) → has_class h name ≡ true → has_class (with_changes h more) name ≡ true
class_stays h more name e = ap is_some (last_said-append (years_in name) h.changes more) ∙ some_behind (last_said (years_in name) more) (years_of h name) e

collection_stays : (h : History) (more : List Change) (name : List ℕ) → has_collection h name ≡ true → has_collection (with_changes h more) name ≡ true
collection_stays h more name e =
    ap (list_any (bytes_eq name)) (filter_map-append collection_in h.changes more)
    ∙ list_any-append (bytes_eq name) (collections h) (filter_map collection_in more)
    ∙ or_left (has_collection h name) _ e

there_stays : (h : History) (more : List Change) (target : Target) → IsThere h target → IsThere (with_changes h more) target
there_stays h more (OnCollection name) e = collection_stays h more name e
there_stays h more (OnClass name) e = class_stays h more name e
there_stays h more (OnDeposit n) e =
    by_Option (deposit_numbered (with_changes h more) n) (λ none. absurd (let some = rw (no_deposit_before h more n none) at e in cc)) (λ found is. rw is refl)

abbrev pub HasPlace : History → Date × Deposit → Type 0
HasPlace h found = (has_collection h found.1.description.collection ≡ true) × (has_class h found.1.description.class ≡ true)

place_stays : (h : History) (more : List Change) (found : Date × Deposit) → HasPlace h found → HasPlace (with_changes h more) found
place_stays h more found e = (collection_stays h more found.1.description.collection e.0, class_stays h more found.1.description.class e.1)

pub placed_deposits : (h : History) → IsLegal h → AllByRecursion (HasPlace h) (deposits h)
placed_deposits = each_deposit HasPlace place_stays (λ h day deposit ranged allowed. (allowed.collection, allowed.class))

abbrev pub HasTarget : History → Date × Hold → Type 0
HasTarget h found = IsThere h found.1.target

pub placed_holds : (h : History) → IsLegal h → AllByRecursion (HasTarget h) (holds h)
placed_holds = each_hold HasTarget (λ h more found there. there_stays h more found.1.target there) (λ h day hold ranged allowed. allowed.there)
