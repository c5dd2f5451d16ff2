-- The values under a key, by counting its pairs.
use Rattle.desk_forms.proofs.Common.{◌≡◌, ℕ, true, false, ◌⊎◌, List, [], ◌∷◌, length, map, filter, nat_eq, Contains, refl, sym, ap, ◌∙◌, subst, inl, inr, arith, pointwise, bytes_decides, cases_Bool, cond-true, cond-false, Contains-append_right, Contains-append_cases, Contains-push_cases, values_under, count_of, OccursOnce}
use Rattle.std.proofs.lemmas.List.{length-map, nil_from_length}
use Rattle.std.proofs.lemmas.List.Sums.{length-filter}

abbrev pub Pair : Type 0
Pair = List ℕ × List ℕ

module _ {X : Type 0} where
  pub none_contained : (x : X) → ¬ Contains [] x
  none_contained x h = omega (arith, h.1)

  pub first_contained : (x : X) (xs : List X) → Contains (x ∷ xs) x
  first_contained x xs = (0, omega arith, refl)

  -- what a list contains is its first element, or in the rest
  pub contained : (a : X) (xs : List X) (x : X) → Contains (a ∷ xs) x → (a ≡ x) ⊎ Contains xs x
  contained a xs x h =
      elim (Contains-append_cases (a ∷ []) xs x h) [
        | inl one ↦ elim (Contains-push_cases [] a x one) [
          | inl none ↦ absurd (none_contained x none)
          | inr same ↦ inl same
        ]
        | inr later ↦ inr later
      ]

  -- a list of one element that contains x
  one_element : (x : X) (xs : List X) → length xs ≡ 1 → Contains xs x → xs ≡ x ∷ []
  one_element x [] one h = absurd (none_contained x h)
  one_element x (a ∷ []) one h =
      elim (contained a [] x h) [ inl same ↦ ap (λ y. y ∷ []) same | inr none ↦ absurd (none_contained x none) ]
  one_element x (a ∷ b ∷ xs) one h = absurd (omega arith)

pub same_pair : (p : Pair) (key value : List ℕ) → p.0 ≡ key → p.1 ≡ value → ◌≡◌ {A = Pair} p (key, value)
same_pair p key value k v = λ i. (k i, v i)

-- the values of one more pair
values_of-pair : (key : List ℕ) (p : Pair) (pairs : List Pair) → pointwise nat_eq p.0 key ≡ true → values_under key (p ∷ pairs) ≡ p.1 ∷ values_under key pairs
values_of-pair key p pairs same = ap (map (λ (q : Pair). q.1)) (cond-true _ _ _ same)

values_of-other : (key : List ℕ) (p : Pair) (pairs : List Pair) → pointwise nat_eq p.0 key ≡ false → values_under key (p ∷ pairs) ≡ values_under key pairs
values_of-other key p pairs other = ap (map (λ (q : Pair). q.1)) (cond-false _ _ _ other)

pub length-values_of : (key : List ℕ) (pairs : List Pair) → length (values_under key pairs) ≡ count_of key pairs
length-values_of key pairs =
    length-map (filter (λ (p : Pair). pointwise nat_eq p.0 key) pairs) (λ p. p.1) ∙ length-filter (λ (p : Pair). pointwise nat_eq p.0 key) pairs

-- a value under the key is in a pair with it
pub pair_of_value : (key value : List ℕ) (pairs : List Pair) → Contains (values_under key pairs) value → Contains pairs (key, value)
pair_of_value key value [] h = absurd (none_contained value h)
pair_of_value key value (p ∷ pairs) h =
    let rest = pair_of_value key value pairs in
    elim (cases_Bool (pointwise nat_eq p.0 key)) [
      | inl same ↦ (
          let P : List (List ℕ) → Type 0 = λ vs. Contains vs value in
          elim (contained p.1 (values_under key pairs) value (subst P (values_of-pair key p pairs same) h)) [
            | inl here ↦ (
                let Q : Pair → Type 0 = λ q. Contains (p ∷ pairs) q in
                subst Q (same_pair p key value ((bytes_decides p.0 key).0 same) here) (first_contained p pairs))
            | inr later ↦ Contains-append_right (p ∷ []) pairs (key, value) (rest later)
          ])
      | inr other ↦ (
          let P : List (List ℕ) → Type 0 = λ vs. Contains vs value in
          Contains-append_right (p ∷ []) pairs (key, value) (rest (subst P (values_of-other key p pairs other) h)))
    ]

-- the value of a pair with the key is one of its values
pub value_of_pair : (key value : List ℕ) (pairs : List Pair) → Contains pairs (key, value) → Contains (values_under key pairs) value
value_of_pair key value [] h = absurd (none_contained {X = Pair} (key, value) h)
value_of_pair key value (p ∷ pairs) h =
    let rest = value_of_pair key value pairs in
    let P : List (List ℕ) → Type 0 = λ vs. Contains vs value in
    elim (contained p pairs (key, value) h) [
      | inl here ↦ (
          let same = (bytes_decides p.0 key).1 (ap (λ (q : Pair). q.0) here) in
          subst P (sym (values_of-pair key p pairs same)) (
          let Q : List ℕ → Type 0 = λ v. Contains (v ∷ values_under key pairs) value in
          subst Q (sym (ap (λ (q : Pair). q.1) here)) (first_contained value (values_under key pairs))))
      | inr later ↦ elim (cases_Bool (pointwise nat_eq p.0 key)) [
        | inl same ↦ subst P (sym (values_of-pair key p pairs same)) (Contains-append_right (p.1 ∷ []) (values_under key pairs) value (rest later))
        | inr other ↦ subst P (sym (values_of-other key p pairs other)) (rest later)
      ]
    ]

pub once_by_count : (key value : List ℕ) (pairs : List Pair) → (OccursOnce key pairs value → (count_of key pairs ≡ 1) × Contains pairs (key, value)) × ((count_of key pairs ≡ 1) × Contains pairs (key, value) → OccursOnce key pairs value)
once_by_count key value pairs = (
  λ once. (
    sym (length-values_of key pairs) ∙ ap length once,
    pair_of_value key value pairs (
        let P : List (List ℕ) → Type 0 = λ vs. Contains vs value in
        subst P (sym once) (first_contained value [])),
  ),
  λ h. one_element value (values_under key pairs) (length-values_of key pairs ∙ h.0) (value_of_pair key value pairs h.1),
)

pub nowhere_by_count : (key : List ℕ) (pairs : List Pair) → (values_under key pairs ≡ [] → count_of key pairs ≡ 0) × (count_of key pairs ≡ 0 → values_under key pairs ≡ [])
nowhere_by_count key pairs = (
  λ none. sym (length-values_of key pairs) ∙ ap length none,
  λ none. nil_from_length (values_under key pairs) (length-values_of key pairs ∙ none),
)
