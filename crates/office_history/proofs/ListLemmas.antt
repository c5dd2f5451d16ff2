-- Lists: longer lists, and what all items are.
use Rattle.office_history.proofs.Common.{◌≡◌, ℕ, zero, suc, List, [], ◌∷◌, ◌++◌, Bool, false, not, cond, ◌+◌, ◌≤◌, length, position, nat_lt, arith, Option, Some, None, slice_get, refl, ap, subst, inl, inr, ◌⊎◌, AllByRecursion, filter_map, position_or_len, prefix_len, cases_Bool, nat_tests, option_or, same_Some, slice_get-append, slice_get_last, first_said, last_said, item_numbered, by_Bool, by_Option}

-- an item keeps its number in a longer list
pub numbered_front : {A : Type 0} (xs ys : List A) (n : ℕ) (x : A) → item_numbered xs n ≡ Some x → item_numbered (xs ++ ys) n ≡ Some x
numbered_front xs ys zero x e = e
numbered_front xs ys (suc place) x e = slice_get-append xs ys place x e

pub all_at : {A : Type 0} (P : A → Type 0) (xs : List A) (i : ℕ) (x : A) → AllByRecursion P xs → slice_get xs i ≡ Some x → P x
all_at P [] i x a e = absurd cc
all_at P (y ∷ xs) zero x a e = subst P (same_Some _ _ e) a.0
all_at P (y ∷ xs) (suc i) x a e = all_at P xs i x a.1 e

pub all_numbered : {A : Type 0} (P : A → Type 0) (xs : List A) (n : ℕ) (x : A) → AllByRecursion P xs → item_numbered xs n ≡ Some x → P x
all_numbered P xs zero x a e = absurd cc
all_numbered P xs (suc place) x a e = all_at P xs place x a e

-- each item is what any item is
pub each : {A : Type 0} (P : A → Type 0) → ((item : A) → P item) → (items : List A) → AllByRecursion P items
each P is [] = tt
each P is (item ∷ items) = (is item, each P is items)

-- what items say is so, where what each of them says is
pub all_said : {A B : Type 0} (P : A → Type 0) (Q : B → Type 0) (says : A → Option B) → ((item : A) → P item → (b : B) → says item ≡ Some b → Q b)
    → (items : List A) → AllByRecursion P items → AllByRecursion Q (filter_map says items)
all_said P Q says so [] all = tt
all_said P Q says so (item ∷ items) all =
    let rest = all_said P Q says so items all.1 in by_Option (says item) (λ none. rw none rest) (λ b is. rw is (so item all.0 b is, rest))

or_front : {B : Type 0} (o p q : Option B) (b : B) → (p ≡ Some b → q ≡ Some b) → option_or o p ≡ Some b → option_or o q ≡ Some b
or_front (Some c) p q b k e = e
or_front None p q b k e = k e

-- what was said first stays
pub first_said_front : {A B : Type 0} (says : A → Option B) (xs ys : List A) (b : B) → first_said says xs ≡ Some b → first_said says (xs ++ ys) ≡ Some b
first_said_front says [] ys b e = absurd cc
first_said_front says (x ∷ xs) ys b e = or_front (says x) (first_said says xs) (first_said says (xs ++ ys)) b (first_said_front says xs ys b) e

-- what the last item says counts
pub last_said_last : {A B : Type 0} (says : A → Option B) (xs : List A) (y : A) (b : B) → says y ≡ Some b → last_said says (xs ++ y ∷ []) ≡ Some b
last_said_last says [] y b e = rw e refl
last_said_last says (x ∷ xs) y b e = rw (last_said_last says xs y b e) refl

-- an item of two lists in a row is in the first or in the second
pub split_two : {A : Type 0} (xs ys before : List A) (c : A) (rest : List A) → xs ++ ys ≡ before ++ c ∷ rest
    → ((more : List A) × (xs ≡ before ++ c ∷ more)) ⊎ ((more : List A) × (before ≡ xs ++ more) × (ys ≡ more ++ c ∷ rest))
split_two [] ys before c rest e = inr (before, refl, e)
split_two (x ∷ xs) ys [] c rest e = inl (xs, (let same : x ≡ c = cc in ap (λ z. z ∷ xs) same))
split_two (x ∷ xs) ys (b ∷ before) c rest e =
    let head : x ≡ b = cc in
    let tail : xs ++ ys ≡ before ++ c ∷ rest = cc in
    elim (split_two xs ys before c rest tail) [
      | inl found ↦ inl (found.0, (let k = found.1 in rw (head, k) refl))
      | inr found ↦ inr (found.0, (let k = found.1 in rw (← head, k) refl), found.2)
    ]

-- the item that was added has the next number
pub numbered_last : {A : Type 0} (xs : List A) (y : A) → item_numbered (xs ++ y ∷ []) (length xs + 1) ≡ Some y
numbered_last xs y = let next : length xs + 1 ≡ suc (length xs) = omega arith in rw next (slice_get_last xs y [])

slice_get_cases : {A : Type 0} (xs : List A) (y : A) (i : ℕ) (x : A) → slice_get (xs ++ y ∷ []) i ≡ Some x → (slice_get xs i ≡ Some x) ⊎ ((i ≡ length xs) × (y ≡ x))
slice_get_cases [] y zero x e = inr (refl, same_Some _ _ e)
slice_get_cases [] y (suc i) x e = absurd cc
slice_get_cases (z ∷ xs) y zero x e = inl e
slice_get_cases (z ∷ xs) y (suc i) x e =
    elim (slice_get_cases xs y i x e) [
      | inl front ↦ inl front
      | inr last ↦ inr (ap suc last.0, last.1)
    ]

-- an item of a list with one more is one of the list, or the last
pub numbered_cases : {A : Type 0} (xs : List A) (y : A) (n : ℕ) (x : A) → item_numbered (xs ++ y ∷ []) n ≡ Some x → (item_numbered xs n ≡ Some x) ⊎ ((n ≡ suc (length xs)) × (y ≡ x))
numbered_cases xs y zero x e = absurd cc
numbered_cases xs y (suc place) x e =
    elim (slice_get_cases xs y place x e) [
      | inl front ↦ inl front
      | inr last ↦ inr (ap suc last.0, last.1)
    ]

passes_over : {A : Type 0} (p : A → Bool) (xs : List A) (i : ℕ) (x : A) → length xs ≤ prefix_len (λ y. not (p y)) xs → slice_get xs i ≡ Some x → p x ≡ false
passes_over p [] i x le at = absurd cc
passes_over p (y ∷ xs) i x le at =
    elim (cases_Bool (p y)) [
      | inl hit ↦ absurd (let none : length (y ∷ xs) ≤ 0 = rw hit at le in omega arith)
      | inr miss ↦ later i (let rest : length (y ∷ xs) ≤ 1 + prefix_len (λ z. not (p z)) xs = rw miss at le in omega arith) miss at (λ j le at. passes_over p xs j x le at)
    ]
  where
    later : (j : ℕ) → length xs ≤ prefix_len (λ z. not (p z)) xs → p y ≡ false → slice_get (y ∷ xs) j ≡ Some x → ((k : ℕ) → length xs ≤ prefix_len (λ z. not (p z)) xs → slice_get xs k ≡ Some x → p x ≡ false) → p x ≡ false
    later zero le miss at rest = subst (λ z. p z ≡ false) (same_Some _ _ at) miss
    later (suc k) le miss at rest = rest k le at

no_place : (place count : ℕ) → cond (nat_lt place count) (Some place) None ≡ None → count ≤ place
no_place place count e = by_Bool (nat_lt place count) (λ within. absurd (let wrong = rw within at e in cc)) (λ past. grind (arith, nat_tests, past))

-- none passes where there is no first place
pub none_passes : {A : Type 0} (p : A → Bool) (xs : List A) (i : ℕ) (x : A) → position p xs ≡ None → slice_get xs i ≡ Some x → p x ≡ false
none_passes p xs i x e at = passes_over p xs i x (no_place (position_or_len p xs) (length xs) e) at
