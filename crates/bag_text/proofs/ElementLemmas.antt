-- The elements of a list, and of one that is mapped or filtered.
use Rattle.bag_text.proofs.Common.{cases_Bool, or_parts, ◌≡◌, ◌⊎◌, inl, inr, ℕ, Bool, true, false, List, [], ◌∷◌, ◌++◌, length, zero, suc, map, filter, refl, sym, ap, ◌∙◌, arith, Contains, list_any, false≢true, slice_get, Some}

-- x is an element, by the list's parts
abbrev pub Has : {A : Type 0} → List A → A → Type 0
Has [] x = ⊥
Has (y ∷ ys) x = (y ≡ x) ⊎ Has ys x

-- what a list contains is one of its parts
pub contains_has : {A : Type 0} (xs : List A) (x : A) → Contains xs x → Has xs x
contains_has [] x (k, within, is) = absurd (omega arith)
contains_has (y ∷ ys) x (zero, within, is) = inl is
contains_has (y ∷ ys) x (suc k, within, is) = inr (contains_has ys x (k, omega arith, is))

-- a part of a list is contained in it
pub has_contains : {A : Type 0} (xs : List A) (x : A) → Has xs x → Contains xs x
has_contains [] x h = absurd h
has_contains (y ∷ ys) x (inl e) = (0, omega arith, e)
has_contains (y ∷ ys) x (inr h) = let rest = has_contains ys x h in (suc rest.0, omega (arith, rest.1), rest.2)

-- where some element passes there is one
pub any_has : {A : Type 0} (p : A → Bool) (xs : List A) → list_any p xs ≡ true → (x : A) × Has xs x × (p x ≡ true)
any_has p [] e = absurd cc
any_has p (x ∷ xs) e = elim (cases_Bool (p x)) [
  | inl is ↦ (x, inl refl, is)
  | inr isnt ↦ let found = any_has p xs (rw isnt at e) in (found.0, inr found.1, found.2)
]

-- where none passes no element does
pub none_has : {A : Type 0} (p : A → Bool) (xs : List A) (x : A) → list_any p xs ≡ false → Has xs x → p x ≡ true → ⊥
none_has p [] x none h e = h
none_has p (y ∷ ys) x none (inl is) e = false≢true (sym (or_parts (p y) (list_any p ys) none).0 ∙ ap p is ∙ e)
none_has p (y ∷ ys) x none (inr h) e = none_has p ys x (or_parts (p y) (list_any p ys) none).1 h e

-- ---- elements of a list that is mapped or filtered

-- an element is one of the mapped list, mapped
pub has_map : {A B : Type 0} (f : A → B) (xs : List A) (x : A) → Has xs x → Has (map f xs) (f x)
has_map f [] x h = absurd h
has_map f (y ∷ ys) x (inl e) = inl (ap f e)
has_map f (y ∷ ys) x (inr h) = inr (has_map f ys x h)

-- an element of a mapped list comes from one of the list
pub map_has : {A B : Type 0} (f : A → B) (xs : List A) (y : B) → Has (map f xs) y → (x : A) × Has xs x × (f x ≡ y)
map_has f [] y h = absurd h
map_has f (x ∷ xs) y (inl e) = (x, inl refl, e)
map_has f (x ∷ xs) y (inr h) = let found = map_has f xs y h in (found.0, inr found.1, found.2)

-- an element that passes is kept
pub has_filter : {A : Type 0} (p : A → Bool) (xs : List A) (x : A) → Has xs x → p x ≡ true → Has (filter p xs) x
has_filter p [] x h e = absurd h
has_filter p (y ∷ ys) x (inl is) e = rw (ap p is ∙ e) (inl is)
has_filter p (y ∷ ys) x (inr h) e =
    elim (cases_Bool (p y)) [ inl t ↦ rw t (inr (has_filter p ys x h e)) | inr t ↦ rw t (has_filter p ys x h e) ]

-- what is kept is an element that passes
pub filter_has : {A : Type 0} (p : A → Bool) (xs : List A) (x : A) → Has (filter p xs) x → Has xs x × (p x ≡ true)
filter_has p [] x h = absurd h
filter_has p (y ∷ ys) x h = elim (cases_Bool (p y)) [
  | inl t ↦ elim (rw t at h) [ inl is ↦ (inl is, ap p (sym is) ∙ t) | inr h ↦ let more = filter_has p ys x h in (inr more.0, more.1) ]
  | inr t ↦ let more = filter_has p ys x (rw t at h) in (inr more.0, more.1)
]

-- ---- by their places

-- an element of the front is one of the whole
pub slice_get-append : {A : Type 0} (xs ys : List A) (i : ℕ) (x : A) → slice_get xs i ≡ Some x → slice_get (xs ++ ys) i ≡ Some x
slice_get-append [] ys i x e = absurd cc
slice_get-append (y ∷ xs) ys zero x e = e
slice_get-append (y ∷ xs) ys (suc i) x e = slice_get-append xs ys i x e

-- the element after the front
pub slice_get_last : {A : Type 0} (xs : List A) (x : A) (ys : List A) → slice_get (xs ++ x ∷ ys) (length xs) ≡ Some x
slice_get_last [] x ys = refl
slice_get_last (y ∷ xs) x ys = slice_get_last xs x ys
