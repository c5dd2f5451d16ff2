-- Tests by a key, and that a key finds at most one row.
use Rattle.sql_meaning.proofs.Common.{◌≡◌, ◌&&◌, ◌⊎◌, not, ℕ, ℤ, List, [], ◌∷◌, map, filter, find, slice_get, option_map, bytes_eq, Bool, true, false, Some, Ordering, Equal, Less, Greater, subst₂, refl, sym, ap, subst, ◌∙◌, inl, inr, is_eq, is_ne, ordering_reverse, int_cmp, AllByRecursion, list_any, cases_Bool, not-true, and-true, tied_itself, Value, Int, Text, Blob, Row, value_cmp, Binary, is_true, from_truth, binary, Compare, Eq, value_cmp-Text, value_cmp-Blob, value_cmp-Int, value_cmp_total, rowid, IsTable, clashes, agree, differ, Has, tied_same, all_has, some_from, int_is, is_int, IsShaped}
use Rattle.std.proofs.lemmas.Map.Text.{is_eq-slice_cmp}
use Rattle.sqlite_value.specs.declared.keys.Order.{Order}
use Rattle.sqlite_trees.specs.declared.store.Shape.TheVariants as shape

-- a row that a rule of its own key passes clashes with no other
pub unclashed : (b : Bool) → (not b && true) ≡ true → b ≡ false
unclashed b h = not-true b (sym (and-true (not b)) ∙ h)

truth_back : (b : Bool) → is_true (from_truth (Some b)) ≡ b
truth_back true = refl
truth_back false = refl

-- a text and a whole number equal themselves
pub bytes_itself : (a : List ℕ) → bytes_eq a a ≡ true
bytes_itself a = sym (is_eq-slice_cmp a a) ∙ ap is_eq (sym (value_cmp-Text a a) ∙ tied_itself value_cmp_total (Text a))

pub int_itself : (n : ℤ) → is_eq (int_cmp n n) ≡ true
int_itself n = ap is_eq (sym (value_cmp-Int n n) ∙ tied_itself value_cmp_total (Int n))

-- `column = parameter`, of texts and of whole numbers
pub same_text : (a b : List ℕ) → is_true (binary (Compare Eq Binary) (Text a) (Text b)) ≡ bytes_eq a b
unfolding binary
same_text a b = truth_back (is_eq (value_cmp (Text a) (Text b))) ∙ ap is_eq (value_cmp-Text a b) ∙ is_eq-slice_cmp a b

pub same_blob : (a b : List ℕ) → is_true (binary (Compare Eq Binary) (Blob a) (Blob b)) ≡ bytes_eq a b
unfolding binary
same_blob a b = truth_back (is_eq (value_cmp (Blob a) (Blob b))) ∙ ap is_eq (value_cmp-Blob a b) ∙ is_eq-slice_cmp a b

pub same_int : (m n : ℤ) → is_true (binary (Compare Eq Binary) (Int m) (Int n)) ≡ is_eq (int_cmp m n)
unfolding binary
same_int m n = truth_back (is_eq (value_cmp (Int m) (Int n))) ∙ ap is_eq (value_cmp-Int m n)

differs : (m n : ℤ) → differ (Int m) (Int n) ≡ is_ne (value_cmp (Int m) (Int n))
unfolding binary
differs m n = truth_back (is_ne (value_cmp (Int m) (Int n)))

untied : (o : Ordering) → is_ne o ≡ false → o ≡ Equal
untied Less h = absurd cc
untied Equal h = refl
untied Greater h = absurd cc

tied : (a b : Value) → is_int a ≡ true → is_int b ≡ true → differ a b ≡ false → value_cmp a b ≡ Equal
tied a b p q h = subst₂ (λ x y. differ x y ≡ false → value_cmp x y ≡ Equal) (sym (int_is a p)) (sym (int_is b q)) (λ k. untied _ (sym (differs _ _) ∙ k)) h

none_of : {X : Type 0} (p : X → Bool) (xs : List X) (x : X) → list_any p xs ≡ false → Has xs x → p x ≡ false
none_of p xs x h there = elim (cases_Bool (p x)) [ inl is ↦ absurd (let some = some_from p xs x there is in cc) | inr isnt ↦ isnt ]

pub none_pass : {X : Type 0} (p : X → Bool) (xs : List X) → ((x : X) → Has xs x → p x ≡ false) → filter p xs ≡ []
none_pass p [] none = refl
none_pass p (x ∷ xs) none = rw (none x (inl refl)) (none_pass p xs (λ y there. none y (inr there)))

below_itself : (r : Row) → value_cmp (rowid r) (rowid r) ≡ Less → ⊥
below_itself r h = let e = value_cmp_total.antisymm (rowid r) (rowid r) ∙ ap ordering_reverse h in cc

-- the rows that pass a test which no two rows pass
pub lone : (p : Row → Bool) (all rows : List Row) → IsTable rows → ((r : Row) → Has rows r → Has all r)
    → ((x y : Row) → Has all x → Has all y → p x ≡ true → p y ≡ true → x ≡ y)
    → (filter p rows ≡ []) ⊎ ((r : Row) × Has rows r × (p r ≡ true) × (filter p rows ≡ r ∷ []))
lone p all [] up within alike = inl refl
lone p all (r ∷ rows) up within alike = elim (cases_Bool (p r)) [
  | inl is ↦
      let others : filter p rows ≡ [] = none_pass p rows (λ x there. elim (cases_Bool (p x)) [
        | inl too ↦ absurd (let same : x ≡ r = alike x r (within x (inr there)) (within r (inl refl)) too is in below_itself r (subst (λ y. value_cmp (rowid r) (rowid y) ≡ Less) same (all_has _ rows x up.0 there)))
        | inr isnt ↦ isnt
      ]) in
      inr (r, inl refl, is, rw (is, others) refl)
  | inr isnt ↦ elim (lone p all rows up.1 (λ x there. within x (inr there)) alike) [
    | inl none ↦ inl (rw isnt none)
    | inr one ↦ inr (one.0, inr one.1, one.2, rw isnt one.3)
  ]
]

-- two rows that agree on a unique key are one
pub same_key : (o : Order) (places : List ℕ) (rows : List Row) → IsShaped shape.Table rows → (x y : Row) → Has rows x → Has rows y → clashes o places rows y ≡ false → agree o places x places y ≡ true → x ≡ y
same_key o places rows shaped x y hx hy apart agrees =
    let differs_not : (agree o places x places y && differ (rowid x) (rowid y)) ≡ false = none_of (λ other. agree o places other places y && differ (rowid other) (rowid y)) rows x apart hx in
    let same : differ (rowid x) (rowid y) ≡ false = rw agrees at differs_not in
    tied_same rows x y shaped.0 hx hy (tied (rowid x) (rowid y) (all_has _ rows x shaped.1 hx) (all_has _ rows y shaped.1 hy) same)

pub found_by : {X Y : Type 0} (q : Y → Bool) (p : X → Bool) (f : X → Y) (xs : List X) → AllByRecursion (λ x. q (f x) ≡ p x) xs → find q (map f xs) ≡ option_map f (slice_get (filter p xs) 0)
found_by q p f [] same = refl
found_by q p f (x ∷ xs) same = elim (cases_Bool (p x)) [
  | inl is ↦ let q_is : q (f x) ≡ true = same.0 ∙ is in rw (is, q_is) refl
  | inr isnt ↦ let q_is : q (f x) ≡ false = same.0 ∙ isnt in rw (isnt, q_is) (found_by q p f xs same.1)
]
