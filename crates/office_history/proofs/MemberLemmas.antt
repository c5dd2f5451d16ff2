-- What is in lists of numbers, in lists that are gathered, and in lists freed of repetitions.
use Rattle.office_history.proofs.Common.{◌≡◌, ℕ, zero, suc, ◌+◌, ◌<◌, ◌≤◌, ◌||◌, false, List, [], ◌∷◌, ◌++◌, length, Some, slice_get, refl, sym, ap, subst, ◌∙◌, inl, inr, ◌⊎◌, arith, true≢false, bytes_eq, AllByRecursion, IsDistinct, flat_map, list_any, range_with_len, or_parts, same_Some, slice_get_within, bytes_eq-Decides, other_way, Has, item_numbered, numbers, distinct_after, in_first_places, by_Bool}

pub has_at : {A : Type 0} (xs : List A) (i : ℕ) (x : A) → slice_get xs i ≡ Some x → Has xs x
has_at [] i x e = absurd cc
has_at (y ∷ xs) zero x e = inl (same_Some _ _ e)
has_at (y ∷ xs) (suc i) x e = inr (has_at xs i x e)

pub at_or_above : (a b : ℕ) → a ≤ b → (a ≡ b) ⊎ (a + 1 ≤ b)
at_or_above zero zero le = inl refl
at_or_above zero (suc b) le = inr (omega arith)
at_or_above (suc a) zero le = absurd (omega arith)
at_or_above (suc a) (suc b) le =
    elim (at_or_above a b (omega arith)) [
      | inl same ↦ inl (ap suc same)
      | inr above ↦ inr (omega arith)
    ]

-- the numbers of a row of numbers
pub range_has : (start len n : ℕ) → start ≤ n → n < start + len → Has (range_with_len start len) n
range_has start zero n low high = absurd (omega arith)
range_has start (suc len) n low high =
    elim (at_or_above start n low) [
      | inl same ↦ inl same
      | inr above ↦ inr (range_has (start + 1) len n above (omega arith))
    ]

-- the number of an item is one of the numbers
pub numbered_has : {A : Type 0} (xs : List A) (n : ℕ) (x : A) → item_numbered xs n ≡ Some x → Has (numbers (length xs)) n
numbered_has xs zero x e = absurd cc
numbered_has xs (suc i) x e = let low = slice_get_within xs i x e in range_has 1 (length xs) (suc i) (omega arith) (omega arith)

-- ---- each once

abbrev IsNew : List (List ℕ) → List ℕ → Type 0
IsNew seen text = list_any (bytes_eq text) seen ≡ false

weaker : (x : List ℕ) (seen texts : List (List ℕ)) → AllByRecursion (IsNew (x ∷ seen)) texts → AllByRecursion (IsNew seen) texts
weaker x seen [] all = tt
weaker x seen (y ∷ ys) all = ((or_parts (bytes_eq y x) _ all.0).1, weaker x seen ys all.1)

all_new : (seen texts : List (List ℕ)) → AllByRecursion (IsNew seen) (distinct_after seen texts)
all_new seen [] = tt
all_new seen (x ∷ xs) =
    by_Bool (list_any (bytes_eq x) seen) (λ before. rw before (all_new seen xs)) (λ new. rw new (new, weaker x seen (distinct_after (x ∷ seen) xs) (all_new (x ∷ seen) xs)))

unlike : (x : List ℕ) (seen texts : List (List ℕ)) → AllByRecursion (IsNew (x ∷ seen)) texts → AllByRecursion (λ y. bytes_eq x y ≡ false) texts
unlike x seen [] all = tt
unlike x seen (y ∷ ys) all = (other_way x y (or_parts (bytes_eq y x) _ all.0).0, unlike x seen ys all.1)

distinct_once : (seen texts : List (List ℕ)) → IsDistinct bytes_eq (distinct_after seen texts)
unfolding IsDistinct
distinct_once seen [] = tt
distinct_once seen (x ∷ xs) =
    by_Bool (list_any (bytes_eq x) seen) (λ before. rw before (distinct_once seen xs))
    (λ new. rw new (unlike x seen (distinct_after (x ∷ seen) xs) (all_new (x ∷ seen) xs), distinct_once (x ∷ seen) xs))

pub first_places_once : (texts : List (List ℕ)) → IsDistinct bytes_eq (in_first_places texts)
first_places_once texts = distinct_once [] texts

distinct_has : (y : List ℕ) (seen texts : List (List ℕ)) → IsNew seen y → Has texts y → Has (distinct_after seen texts) y
distinct_has y seen [] new found = absurd found
distinct_has y seen (x ∷ xs) new (inl same) =
    by_Bool (list_any (bytes_eq x) seen) (λ before. absurd (true≢false (sym before ∙ ap (λ z. list_any (bytes_eq z) seen) same ∙ new))) (λ first. rw first (inl same))
distinct_has y seen (x ∷ xs) new (inr rest) =
    by_Bool (list_any (bytes_eq x) seen) (λ before. rw before (distinct_has y seen xs new rest))
    (λ first. rw first (by_Bool (bytes_eq y x) (λ again. inl (sym ((bytes_eq-Decides y x).0 again)))
    (λ other. inr (distinct_has y (x ∷ seen) xs (ap (λ b. b || list_any (bytes_eq y) seen) other ∙ new) rest))))

has_distinct : (y : List ℕ) (seen texts : List (List ℕ)) → Has (distinct_after seen texts) y → Has texts y
has_distinct y seen [] found = absurd found
has_distinct y seen (x ∷ xs) found =
    by_Bool (list_any (bytes_eq x) seen) (λ before. inr (has_distinct y seen xs (rw before at found)))
    (λ first. elim (rw first at found) [
      | inl same ↦ inl same
      | inr rest ↦ inr (has_distinct y (x ∷ seen) xs rest)
    ])

-- a text is among the first places exactly if it is in the list
pub first_places_have : (y : List ℕ) (texts : List (List ℕ)) → Has texts y → Has (in_first_places texts) y
first_places_have y texts found = distinct_has y [] texts refl found

pub has_in_places : (y : List ℕ) (texts : List (List ℕ)) → Has (in_first_places texts) y → Has texts y
has_in_places y texts found = has_distinct y [] texts found

-- ---- gathered

has_front : {A : Type 0} (x : A) (xs ys : List A) → Has xs x → Has (xs ++ ys) x
has_front x [] ys found = absurd found
has_front x (y ∷ xs) ys (inl same) = inl same
has_front x (y ∷ xs) ys (inr rest) = inr (has_front x xs ys rest)

has_behind : {A : Type 0} (x : A) (xs ys : List A) → Has ys x → Has (xs ++ ys) x
has_behind x [] ys found = found
has_behind x (y ∷ xs) ys found = inr (has_behind x xs ys found)

has_either : {A : Type 0} (x : A) (xs ys : List A) → Has (xs ++ ys) x → Has xs x ⊎ Has ys x
has_either x [] ys found = inr found
has_either x (y ∷ xs) ys (inl same) = inl (inl same)
has_either x (y ∷ xs) ys (inr rest) =
    elim (has_either x xs ys rest) [
      | inl here ↦ inl (inr here)
      | inr there ↦ inr there
    ]

pub has_gathered : {A B : Type 0} (f : A → List B) (x : A) (y : B) (xs : List A) → Has xs x → Has (f x) y → Has (flat_map f xs) y
has_gathered f x y [] found has = absurd found
has_gathered f x y (z ∷ xs) (inl same) has = has_front y (f z) (flat_map f xs) (subst (λ w. Has (f w) y) (sym same) has)
has_gathered f x y (z ∷ xs) (inr rest) has = has_behind y (f z) (flat_map f xs) (has_gathered f x y xs rest has)

pub gathered_has : {A B : Type 0} (f : A → List B) (y : B) (xs : List A) → Has (flat_map f xs) y → (x : A) × Has xs x × Has (f x) y
gathered_has f y [] found = absurd found
gathered_has f y (x ∷ xs) found =
    elim (has_either y (f x) (flat_map f xs) found) [
      | inl here ↦ (x, inl refl, here)
      | inr there ↦ (let more = gathered_has f y xs there in (more.0, inr more.1, more.2))
    ]
