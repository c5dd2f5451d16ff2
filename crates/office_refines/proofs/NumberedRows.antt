-- Rows that stand for the items of a list, numbered from 1.
use Rattle.office_refines.proofs.Common.{◌≡◌, ℕ, zero, suc, ◌+◌, ◌==◌, ◌<◌, ◌≤◌, ℤ, pos, Bool, true, false, List, [], ◌∷◌, ◌++◌, length, map, Option, Some, None, Less, option_map, unwrap_or, slice_get, rules, refl, sym, ap, ap₂, subst, ◌∙◌, arith, cond, if◌then◌else◌, not, filter, position, nat_lt, filter_map, range_with_len, AllByRecursion, position_or_len, option_or, int_cmp, int_eq, Decides-int_eq, Decides-eqb, nat_tests, slice_get_past, bytes_eq-Decides, last_number, item_numbered, numbers, or_none, told_at, same_list, different, there_is, bytes_eq, find, by_Bool}
use Rattle.std.specs.Cmp.{int_cmp_is}
use Rattle.std.proofs.lemmas.List.Folds.{find_at}

-- each item's row, by its number, the first of which is this one
abbrev pub rows_from : {A R : Type 0} → (ℕ → A → R) → ℕ → List A → List R
rows_from tell start [] = []
rows_from tell start (x ∷ xs) = tell start x ∷ rows_from tell (start + 1) xs

abbrev pub is_nil : {A : Type 0} → List A → Bool
is_nil [] = true
is_nil (x ∷ xs) = false

pub is_less : (m n : ℕ) → m < n → int_cmp (pos m) (pos n) ≡ Less
is_less m n lt = sym (int_cmp_is (pos m) (pos n) Less (search (rules, lt)))

-- numbers of rows that are alike
pub same_count : (m n : ℕ) → pos m ≡ pos n → m ≡ n
same_count m n e = cc

pub alike : (a b : ℕ) → a ≡ b → int_eq (pos a) (pos b) ≡ true
alike a b e = (Decides-int_eq (pos a) (pos b)).1 (ap pos e)

-- two tests that pass in the same cases
same_test : (s t : Bool) → (s ≡ true → t ≡ true) → (t ≡ true → s ≡ true) → s ≡ t
same_test true t up down = sym (up refl)
same_test false true up down = down refl
same_test false false up down = refl

pub same_number : (m n : ℕ) → int_eq (pos m) (pos n) ≡ (m == n)
same_number m n = same_test (int_eq (pos m) (pos n)) (m == n) (λ e. (Decides-eqb m n).1 (same_count m n ((Decides-int_eq (pos m) (pos n)).0 e))) (λ e. alike m n ((Decides-eqb m n).0 e))

-- two numbers are alike in either order
pub eqb-sym : (m n : ℕ) → (m == n) ≡ (n == m)
eqb-sym m n = same_test (m == n) (n == m) (λ e. (Decides-eqb n m).1 (sym ((Decides-eqb m n).0 e))) (λ e. (Decides-eqb m n).1 (sym ((Decides-eqb n m).0 e)))

-- two names too
pub bytes_eq-sym : (a b : List ℕ) → bytes_eq a b ≡ bytes_eq b a
bytes_eq-sym a b = same_test (bytes_eq a b) (bytes_eq b a) (λ e. (bytes_eq-Decides b a).1 (sym ((bytes_eq-Decides a b).0 e))) (λ e. (bytes_eq-Decides a b).1 (sym ((bytes_eq-Decides b a).0 e)))

-- the items of the front
pub item_front : {A : Type 0} (xs ys : List A) (n : ℕ) → n < 1 + length xs → item_numbered (xs ++ ys) n ≡ item_numbered xs n
item_front xs ys zero low = refl
item_front [] ys (suc i) low = absurd (omega (arith, low))
item_front (x ∷ xs) ys (suc zero) low = refl
item_front (x ∷ xs) ys (suc (suc i)) low = item_front xs ys (suc i) (omega (arith, low))

-- no item has the number after the last
pub none_next : {A : Type 0} (xs : List A) → item_numbered xs (1 + length xs) ≡ None
none_next xs = let one : suc (length xs) ≡ 1 + length xs = omega arith in subst (λ k. item_numbered xs k ≡ None) one (slice_get_past xs (length xs) (omega arith))

-- one more number after those in a row
pub range_last : (start len : ℕ) → range_with_len start (suc len) ≡ range_with_len start len ++ (start + len) ∷ []
range_last start zero = let none : start ≡ start + 0 = omega arith in ap (λ k. k ∷ []) none
range_last start (suc len) = let one : start + 1 + len ≡ start + suc len = omega arith in ap (λ ks. start ∷ ks) (range_last (start + 1) len ∙ ap (λ k. range_with_len (start + 1) len ++ k ∷ []) one)

module _ {A R : Type 0} (tell : ℕ → A → R) where
  for_filing : (xs : List A) (start i : ℕ) → slice_get (rows_from tell start xs) i ≡ option_map (tell (start + i)) (slice_get xs i)
  for_filing [] start i = refl
  for_filing (x ∷ xs) start zero = let none : start ≡ start + 0 = omega arith in ap (λ k. Some (tell k x)) none
  for_filing (x ∷ xs) start (suc i) = let one : start + 1 + i ≡ start + suc i = omega arith in for_filing xs (start + 1) i ∙ ap (λ k. option_map (tell k) (slice_get xs i)) one

  pub rows_are : (xs : List A) → filter_map (λ m. option_map (tell m) (item_numbered xs m)) (numbers (length xs)) ≡ rows_from tell 1 xs
  rows_are xs = same_list _ _ (λ i. told_at xs tell (suc i) ∙ (let one : suc i ≡ 1 + i = omega arith in ap (λ k. option_map (tell k) (slice_get xs i)) one) ∙ sym (for_filing xs 1 i))

  pub rows_append : (xs ys : List A) (start : ℕ) → rows_from tell start (xs ++ ys) ≡ rows_from tell start xs ++ rows_from tell (start + length xs) ys
  rows_append [] ys start = let none : start ≡ start + 0 = omega arith in ap (λ k. rows_from tell k ys) none
  rows_append (x ∷ xs) ys start = let one : start + 1 + length xs ≡ start + suc (length xs) = omega arith in ap (λ rs. tell start x ∷ rs) (rows_append xs ys (start + 1) ∙ ap (λ k. rows_from tell (start + 1) xs ++ rows_from tell k ys) one)

  module _ (number : R → ℤ) (numbers_it : (m : ℕ) (x : A) → number (tell m x) ≡ pos m) where
    -- the numbers that are there are lower than the next
    below_from : (n : ℕ) (xs : List A) (start : ℕ) → start + length xs ≤ n → AllByRecursion (λ r. int_cmp (number r) (pos n) ≡ Less) (rows_from tell start xs)
    below_from n [] start le = tt
    below_from n (x ∷ xs) start le = (
      ap (λ k. int_cmp k (pos n)) (numbers_it start x) ∙ is_less start n (omega (arith, le)),
      below_from n xs (start + 1) (omega (arith, le)),
    )

    pub below : (n : ℕ) (xs : List A) → n ≡ 1 + length xs → AllByRecursion (λ r. int_cmp (number r) (pos n) ≡ Less) (rows_from tell 1 xs)
    below n xs e = below_from n xs 1 (omega (arith, e))

    missed : (xs : List A) (start n : ℕ) → n < start → find (λ r. int_eq (number r) (pos n)) (rows_from tell start xs) ≡ None
    missed [] start n low = refl
    missed (x ∷ xs) start n low =
        ap (λ b. cond b (Some (tell start x)) (find (λ r. int_eq (number r) (pos n)) (rows_from tell (start + 1) xs))) (ap (λ k. int_eq k (pos n)) (numbers_it start x) ∙ different start n (λ same. omega (arith, same, low)))
        ∙ missed xs (start + 1) n (omega (arith, low))

    found_from : (xs : List A) (start i : ℕ) → find (λ r. int_eq (number r) (pos (start + i))) (rows_from tell start xs) ≡ option_map (tell (start + i)) (slice_get xs i)
    found_from [] start i = refl
    found_from (x ∷ xs) start zero =
        let none : start ≡ start + 0 = omega arith in
        ap (λ b. cond b (Some (tell start x)) (find (λ r. int_eq (number r) (pos (start + 0))) (rows_from tell (start + 1) xs))) (ap (λ k. int_eq k (pos (start + 0))) (numbers_it start x) ∙ alike start (start + 0) none)
        ∙ ap (λ k. Some (tell k x)) none
    found_from (x ∷ xs) start (suc i) =
        let one : start + 1 + i ≡ start + suc i = omega arith in
        ap (λ b. cond b (Some (tell start x)) (find (λ r. int_eq (number r) (pos (start + suc i))) (rows_from tell (start + 1) xs))) (ap (λ k. int_eq k (pos (start + suc i))) (numbers_it start x) ∙ different start (start + suc i) (λ same. omega (arith, same)))
        ∙ subst (λ k. find (λ r. int_eq (number r) (pos k)) (rows_from tell (start + 1) xs) ≡ option_map (tell k) (slice_get xs i)) one (found_from xs (start + 1) i)

    -- the row of a number
    pub found_at : (xs : List A) (n : ℕ) → find (λ r. int_eq (number r) (pos n)) (rows_from tell 1 xs) ≡ option_map (tell n) (item_numbered xs n)
    found_at xs zero = missed xs 1 0 (omega arith)
    found_at xs (suc i) = let one : 1 + i ≡ suc i = omega arith in subst (λ k. find (λ r. int_eq (number r) (pos k)) (rows_from tell 1 xs) ≡ option_map (tell k) (slice_get xs i)) one (found_from xs 1 i)

    -- the last number
    last_after : (xs : List A) (x : A) (start : ℕ) → last_number number (rows_from tell start (x ∷ xs)) ≡ Some (pos (start + length xs))
    last_after [] x start = let none : start ≡ start + 0 = omega arith in ap Some (numbers_it start x ∙ ap pos none)
    last_after (y ∷ xs) x start = let one : start + 1 + length xs ≡ start + suc (length xs) = omega arith in ap (λ o. Some (unwrap_or o (number (tell start x)))) (last_after xs y (start + 1)) ∙ ap (λ k. Some (pos k)) one

    pub last_is : (xs : List A) → last_number number (rows_from tell 1 xs) ≡ cond (is_nil xs) None (Some (pos (length xs)))
    last_is [] = refl
    last_is (x ∷ xs) = let one : 1 + length xs ≡ suc (length xs) = omega arith in last_after xs x 1 ∙ ap (λ k. Some (pos k)) one

-- ---- rows of which one is marked

-- a change of each item's row, by its number
pub rows_changed : {A R : Type 0} (change : R → R) (before after : ℕ → A → R) (xs : List A) (start : ℕ) → ((i : ℕ) (x : A) → slice_get xs i ≡ Some x → change (before (start + i) x) ≡ after (start + i) x)
    → map change (rows_from before start xs) ≡ rows_from after start xs
rows_changed change before after [] start same = refl
rows_changed change before after (x ∷ xs) start same =
    let none : start + 0 ≡ start = omega arith in
    ap₂ (λ r rs. r ∷ rs) (subst (λ k. change (before k x) ≡ after k x) none (same 0 x refl))
    (rows_changed change before after xs (start + 1) (λ i y e. let one : start + suc i ≡ start + 1 + i = omega arith in subst (λ k. change (before k y) ≡ after k y) one (same (suc i) y e)))

-- of number n nothing was said before, and this is said after; of each other one what was said before
module _ {D : Type 0} (before after : ℕ → Option D) (n : ℕ) (said : D) (not_before : before n ≡ None) (grows : (m : ℕ) → after m ≡ option_or (before m) (if n == m then Some said else None)) where
  pub itself : (m : ℕ) → int_eq (pos m) (pos n) ≡ true → (before m ≡ None) × (after m ≡ Some said)
  itself m e =
      let is : (m == n) ≡ true = sym (same_number m n) ∙ e in
      let was : before m ≡ None = subst (λ k. before k ≡ None) (sym ((Decides-eqb m n).0 is)) not_before in
      (was, grows m ∙ (λ i. option_or (was i) (if (sym (eqb-sym m n) ∙ is) i then Some said else None)))

  pub another : (m : ℕ) → int_eq (pos m) (pos n) ≡ false → after m ≡ before m
  another m e =
      let is : (m == n) ≡ false = sym (same_number m n) ∙ e in
      grows m ∙ (λ i. option_or (before m) (if (sym (eqb-sym m n) ∙ is) i then Some said else None)) ∙ or_none (before m)

  -- so a change of the row of that number makes the rows of what is said after
  pub mark : {A R : Type 0} (row : ℕ → Option D → A → R) (m : ℕ) (x : A) → (if int_eq (pos m) (pos n) then row m (Some said) x else row m (before m) x) ≡ row m (after m) x
  mark row m x =
      by_Bool (int_eq (pos m) (pos n)) (λ same. rw same (ap (λ o. row m o x) (sym (itself m same).1))) (λ other. rw other (ap (λ o. row m o x) (sym (another m other))))

-- ---- the numbers of those that pass

-- the numbers of the rows that pass are those of the items that do
pub numbers_passing : {A R : Type 0} (tell : ℕ → A → R) (number : R → ℤ) → ((m : ℕ) (x : A) → number (tell m x) ≡ pos m) → (passes : R → Bool) (test : ℕ → Bool) (xs : List A) (start : ℕ)
    → ((i : ℕ) (x : A) → slice_get xs i ≡ Some x → passes (tell (start + i) x) ≡ test (start + i)) → map number (filter passes (rows_from tell start xs)) ≡ map pos (filter test (range_with_len start (length xs)))
numbers_passing tell number is passes test [] start same = refl
numbers_passing tell number is passes test (x ∷ xs) start same =
    let none : start + 0 ≡ start = omega arith in
    let first : passes (tell start x) ≡ test start = subst (λ k. passes (tell k x) ≡ test k) none (same 0 x refl) in
    let rest = numbers_passing tell number is passes test xs (start + 1) (λ i y e. let one : start + 1 + i ≡ start + suc i = omega arith in subst (λ k. passes (tell k y) ≡ test k) (sym one) (same (suc i) y e)) in
    by_Bool (test start) (λ it. rw (first, it) (λ i. is start x i ∷ rest i)) (λ fails. rw (first, fails) rest)

-- ---- the first that passes

module _ {A R : Type 0} (tell : ℕ → A → R) (passes : R → Bool) (test : A → Bool) where
  -- the row of each item passes as the item does, whatever its number
  abbrev pub PassAlike : List A → Type 0
  PassAlike = AllByRecursion (λ x. (m : ℕ) → passes (tell m x) ≡ test x)

  same_place : (xs : List A) (start : ℕ) → PassAlike xs → position_or_len passes (rows_from tell start xs) ≡ position_or_len test xs
  same_place [] start same = refl
  same_place (x ∷ xs) start same = λ i. cond (not (same.0 start i)) (1 + same_place xs (start + 1) same.1 i) 0

  -- what is so of no row and no place, and of each row and its place, is so of those of the first that passes
  pub first_told : (P : Option R → Option ℕ → Type 0) (xs : List A) → PassAlike xs → P None None → ((i : ℕ) (x : A) → slice_get xs i ≡ Some x → P (Some (tell (1 + i) x)) (Some i)) → P (find passes (rows_from tell 1 xs)) (position test xs)
  first_told P xs same none each =
      let first = find_at passes (rows_from tell 1 xs) ∙ ap (slice_get (rows_from tell 1 xs)) (same_place xs 1 same) ∙ for_filing tell xs 1 (position_or_len test xs) in
      subst (λ o. P o (position test xs)) (sym first) (by (position_or_len test xs) (nat_lt (position_or_len test xs) (length xs)) refl)
    where
      by : (i : ℕ) (b : Bool) → nat_lt i (length xs) ≡ b → P (option_map (tell (1 + i)) (slice_get xs i)) (cond b (Some i) None)
      by i true e = let it = there_is xs i (grind (arith, nat_tests, e)) in subst (λ o. P (option_map (tell (1 + i)) o) (Some i)) (sym it.1) (each i it.0 it.1)
      by i false e = subst (λ o. P (option_map (tell (1 + i)) o) None) (sym (slice_get_past xs i (grind (arith, nat_tests, e)))) none
