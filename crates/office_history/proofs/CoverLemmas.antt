-- The live holds that cover a deposit: each is one of the list, whatever it names, and the least comes first.
use Rattle.office_history.proofs.FirstLemmas.{◌≡◌, ◌≤◌, ◌<◌, ℕ, zero, suc, ◌+◌, Bool, true, ◌&&◌, List, [], ◌∷◌, length, filter, Option, Some, None, slice_get, is_none, refl, sym, ap, ◌∙◌, inl, inr, arith, true≢false, range_with_len, and_parts, same_Some, slice_get_within, Date, Has, has_filter, filter_has, is_nothing, first_some, gone_verdict, hold_verdict, Held, Dispose, item_numbered, numbers, History, OnCollection, OnClass, Deposit, Hold, deposit_numbered, destruction_day, holds, hold_numbered, release_day, is_live, covers, live_holds, least_hold, refusal_in, denial_at, not_due_refusal, of_deposit, disposal_refusals, refusal, at_or_above, has_at, numbered_has, by_Bool, by_Option}
use Rattle.office_core.specs.declared.action.Action.TheVariants as acts

-- a hold that covers a deposit was placed
pub was_placed : (h : History) (k n : ℕ) (deposit : Deposit) → covers h k n deposit ≡ true → (found : Date × Hold) × (hold_numbered h k ≡ Some found)
was_placed h k n deposit e = by_Option (hold_numbered h k) (λ none. absurd (let wrong = rw none at e in cc)) (λ found is. (found, is))

-- a hold that covers a deposit, and was not released, is one of the live ones
pub among_live : (h : History) (k n : ℕ) (deposit : Deposit) → release_day h k ≡ None → covers h k n deposit ≡ true → Has (live_holds h n deposit) k
among_live h k n deposit live cover =
    let placed = was_placed h k n deposit cover in
    has_filter (λ j. is_live h j && covers h j n deposit) (numbers (length (holds h))) k (numbered_has (holds h) k placed.0 placed.1) (λ i. is_none (live i) && cover i)

-- and each of the live ones was not released, and covers it
pub live_covers : (h : History) (k n : ℕ) (deposit : Deposit) → Has (live_holds h n deposit) k → (release_day h k ≡ None) × (covers h k n deposit ≡ true)
live_covers h k n deposit found =
    let passes = (filter_has (λ j. is_live h j && covers h j n deposit) (numbers (length (holds h))) k found).1 in
    let both = and_parts (is_live h k) (covers h k n deposit) passes in
    (is_nothing (release_day h k) both.0, both.1)

-- ---- the least

-- of numbers in a row, the first that passes is the least
first_least : (test : ℕ → Bool) (len start k m : ℕ) → slice_get (filter test (range_with_len start len)) 0 ≡ Some k → start ≤ m → m < start + len → test m ≡ true → k ≤ m
first_least test zero start k m e low high passes = absurd cc
first_least test (suc len) start k m e low high passes =
    by_Bool (test start) (λ is. let same : start ≡ k = same_Some _ _ (rw is at e) in omega (arith, same, low))
    (λ is. elim (at_or_above start m low) [
      | inl same ↦ absurd (true≢false (sym passes ∙ ap test (sym same) ∙ is))
      | inr above ↦ first_least test len (start + 1) k m (rw is at e) above (omega (arith, high)) passes
    ])

number_within : {A : Type 0} (xs : List A) (n : ℕ) (x : A) → item_numbered xs n ≡ Some x → (1 ≤ n) × (n < 1 + length xs)
number_within xs zero x e = absurd cc
number_within xs (suc place) x e = let low = slice_get_within xs place x e in (omega arith, omega (arith, low))

pub least_is : (h : History) (k m n : ℕ) (deposit : Deposit) → least_hold h n deposit ≡ Some k → release_day h m ≡ None → covers h m n deposit ≡ true → k ≤ m
least_is h k m n deposit e live cover =
    let placed = was_placed h m n deposit cover in
    let within = number_within (holds h) m placed.0 placed.1 in
    first_least (λ j. is_live h j && covers h j n deposit) (length (holds h)) 1 k m e within.0 within.1 (λ i. is_none (live i) && cover i)

pub least_covers : (h : History) (k n : ℕ) (deposit : Deposit) → least_hold h n deposit ≡ Some k → (release_day h k ≡ None) × (covers h k n deposit ≡ true)
least_covers h k n deposit e = live_covers h k n deposit (has_at (live_holds h n deposit) 0 k e)

first_of : (xs : List ℕ) (k : ℕ) → Has xs k → (x : ℕ) × (slice_get xs 0 ≡ Some x)
first_of [] k found = absurd found
first_of (x ∷ xs) k found = (x, refl)

-- where a live hold covers a kept deposit that the rules let the caller dispose of, the least is named
pub refused_for_least : (h : History) (day : Date) (caller : List ℕ) (n k : ℕ) (found : Date × Deposit) → deposit_numbered h n ≡ Some found → destruction_day h n ≡ None
    → denial_at h day caller acts.Dispose found.1 ≡ None → release_day h k ≡ None → covers h k n found.1 ≡ true
    → (least : ℕ) × (refusal h day caller (Dispose n) ≡ Some (Held least)) × (least ≤ k)
refused_for_least h day caller n k found there stays allowed live cover =
    let first = first_of (live_holds h n found.1) k (among_live h k n found.1 live cover) in (
      first.0,
      ap (λ (o : Option (Date × Deposit)). first_some (of_deposit o (disposal_refusals h day caller n))) there
          ∙ (λ i. first_some (allowed i ∷ refusal_in (gone_verdict (stays i)) ∷ refusal_in (hold_verdict (first.1 i)) ∷ not_due_refusal h day found.1 ∷ [])),
      least_is h first.0 k n found.1 first.1 live cover,
    )

-- ---- two holds

two_among : (xs : List ℕ) (j k : ℕ) → Has xs j → Has xs k → ¬ (j ≡ k) → 2 ≤ length xs
two_among [] j k a b apart = absurd a
two_among (x ∷ []) j k (inl a) (inl b) apart = absurd (apart (sym a ∙ b))
two_among (x ∷ []) j k (inl a) (inr b) apart = absurd b
two_among (x ∷ []) j k (inr a) b apart = absurd a
two_among (x ∷ y ∷ xs) j k a b apart = omega arith

-- a live hold of the collection of a deposit and one of its class are two of those that cover it
pub two_live : (h : History) (j k n : ℕ) (day later : Date) (collection class matter other : List ℕ) (deposit : Deposit)
    → hold_numbered h j ≡ Some (day, record { target = OnCollection collection; matter = matter }) → hold_numbered h k ≡ Some (later, record { target = OnClass class; matter = other })
    → Has (live_holds h n deposit) j → Has (live_holds h n deposit) k → 2 ≤ length (live_holds h n deposit)
two_live h j k n day later collection class matter other deposit is is_other a b =
    two_among (live_holds h n deposit) j k a b (λ same.
    let first : Hold = record { target = OnCollection collection; matter = matter } in
    let second : Hold = record { target = OnClass class; matter = other } in
    let holds_same : Some (day, first) ≡ Some (later, second) = sym is ∙ ap (hold_numbered h) same ∙ is_other in
    let targets : first.target ≡ second.target = ap (λ (found : Date × Hold). found.1.target) (same_Some (day, first) (later, second) holds_same) in
    absurd cc)
