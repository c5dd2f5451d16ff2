-- Rows in the order of their numbers: how one is put, how all are sorted, and which number is the highest.
use Rattle.std.proofs.Common.{◌≡◌, ◌≢◌, ℤ, Bool, true, false, List, [], ◌∷◌, ◌++◌, map, None, Some, Ordering, Less, Equal, Greater, if◌then◌else◌, refl, sym, ap, subst, ◌∙◌, append-nil, append_assoc}
use Rattle.std.specs.List.{AllByRecursion}
use Rattle.std.specs.List.Sorted.{IsPermutation}
use Rattle.std.specs.FinMap.{int_cmp-IsAntisymmetric}
use Rattle.std.specs.Ordering.{int_cmp, is_lt, ordering_reverse}
use Rattle.std.proofs.lemmas.Cmp.{int_cmp_total}
use Rattle.std.proofs.lemmas.List.Sorted.{IsPermutation-refl, IsPermutation-trans, IsPermutation-cons, IsPermutation-middle, IsPermutation-sym, IsPermutation-append_right}
use Rattle.office_rows.specs.Rows.{put_by, put_each_by, sorted_by, NumbersBelow, NumbersRise, NumbersDiffer, last_number}

pub all_append : {X : Type 0} (P : X → Type 0) (xs ys : List X) → AllByRecursion P xs → AllByRecursion P ys → AllByRecursion P (xs ++ ys)
all_append P [] ys h k = k
all_append P (x ∷ xs) ys h k = (h.0, all_append P xs ys h.1 k)

pub all_weaker : {X : Type 0} (P Q : X → Type 0) → ((x : X) → P x → Q x) → (xs : List X) → AllByRecursion P xs → AllByRecursion Q xs
all_weaker P Q so [] h = tt
all_weaker P Q so (x ∷ xs) h = (so x h.0, all_weaker P Q so xs h.1)

-- lists of which a one-to-one function makes the same are the same
pub map_back : {A B : Type 0} (f : A → B) → ((x y : A) → f x ≡ f y → x ≡ y) → (xs ys : List A) → map f xs ≡ map f ys → xs ≡ ys
map_back f one_to_one [] [] e = refl
map_back f one_to_one [] (y ∷ ys) e = absurd cc
map_back f one_to_one (x ∷ xs) [] e = absurd cc
map_back f one_to_one (x ∷ xs) (y ∷ ys) e =
    let first : f x ≡ f y = cc in
    let rest : map f xs ≡ map f ys = cc in
    λ i. one_to_one x y first i ∷ map_back f one_to_one xs ys rest i

module _ {Row : Type 0} (number : Row → ℤ) where
  -- each of the rows is lower
  abbrev AreBelow : List Row → Row → Type 0
  AreBelow rows x = NumbersBelow number (number x) rows

  pub put_last : (x : Row) (rows : List Row) → AreBelow rows x → put_by number x rows ≡ rows ++ x ∷ []
  put_last x [] low = refl
  put_last x (r ∷ rows) low = rw low.0 (ap (λ more. r ∷ more) (put_last x rows low.1))

  -- ---- sorting

  put_each_last : (xs rows : List Row) → NumbersRise number xs → AllByRecursion (AreBelow rows) xs → put_each_by number xs rows ≡ rows ++ xs
  put_each_last [] rows up low = sym (append-nil rows)
  put_each_last (x ∷ xs) rows up low =
      ap (put_each_by number xs) (put_last x rows low.0) ∙ put_each_last xs (rows ++ x ∷ []) up.1 (more xs up.0 low.1) ∙ append_assoc rows (x ∷ []) xs
    where
      more : (later : List Row) → AllByRecursion (λ s. int_cmp (number x) (number s) ≡ Less) later → AllByRecursion (AreBelow rows) later → AllByRecursion (AreBelow (rows ++ x ∷ [])) later
      more [] above below = tt
      more (s ∷ later) above below = (all_append (λ r. int_cmp (number r) (number s) ≡ Less) rows (x ∷ []) below.0 (above.0, tt), more later above.1 below.1)

  none_below : (xs : List Row) → AllByRecursion (AreBelow []) xs
  none_below [] = tt
  none_below (x ∷ xs) = (tt, none_below xs)

  pub sorted_already : (xs : List Row) → NumbersRise number xs → sorted_by number xs ≡ xs
  sorted_already xs up = put_each_last xs [] up (none_below xs)

  put_by_either : (x r : Row) (rows : List Row) (lower : Bool) → IsPermutation (x ∷ rows) (put_by number x rows) → IsPermutation (x ∷ r ∷ rows) (if lower then r ∷ put_by number x rows else x ∷ r ∷ rows)
  put_by_either x r rows true rest = IsPermutation-trans _ _ _ (IsPermutation-middle (x ∷ []) r rows) (IsPermutation-cons r _ _ rest)
  put_by_either x r rows false rest = IsPermutation-refl (x ∷ r ∷ rows)

  pub put_permutes : (x : Row) (rows : List Row) → IsPermutation (x ∷ rows) (put_by number x rows)
  put_permutes x [] = IsPermutation-refl (x ∷ [])
  put_permutes x (r ∷ rows) = put_by_either x r rows (is_lt (int_cmp (number r) (number x))) (put_permutes x rows)

  each_permutes : (xs rows : List Row) → IsPermutation (xs ++ rows) (put_each_by number xs rows)
  each_permutes [] rows = IsPermutation-refl rows
  each_permutes (x ∷ xs) rows =
      IsPermutation-trans _ _ _ (IsPermutation-sym _ _ (IsPermutation-middle xs x rows))
      (IsPermutation-trans _ _ _ (IsPermutation-append_right xs _ _ (put_permutes x rows)) (each_permutes xs (put_by number x rows)))

  pub sorted_permutes : (xs : List Row) → IsPermutation xs (sorted_by number xs)
  sorted_permutes xs = subst (λ ys. IsPermutation ys (sorted_by number xs)) (append-nil xs) (each_permutes xs [])

  -- ---- what is put in its place is in order

  all_put : (P : Row → Type 0) (x : Row) (rows : List Row) → P x → AllByRecursion P rows → AllByRecursion P (put_by number x rows)
  all_put P x [] here all = (here, tt)
  all_put P x (r ∷ rows) here all = by (is_lt (int_cmp (number r) (number x))) (all_put P x rows here all.1)
    where
      by : (lower : Bool) → AllByRecursion P (put_by number x rows) → AllByRecursion P (if lower then r ∷ put_by number x rows else x ∷ r ∷ rows)
      by true behind = (all.0, behind)
      by false behind = (here, all)

  above_all : (x r : Row) (rows : List Row) → int_cmp (number x) (number r) ≡ Less → AllByRecursion (λ s. int_cmp (number r) (number s) ≡ Less) rows → AllByRecursion (λ s. int_cmp (number x) (number s) ≡ Less) rows
  above_all x r [] less all = tt
  above_all x r (s ∷ rows) less all = (int_cmp_total.trans (number x) (number r) (number s) less all.0, above_all x r rows less all.1)

  -- a new number in rows that rise leaves rows that rise
  pub put_rises : (x : Row) (rows : List Row) → NumbersRise number rows → AllByRecursion (λ r. number r ≢ number x) rows → NumbersRise number (put_by number x rows)
  put_rises x [] up new = (tt, tt)
  put_rises x (r ∷ rows) up new = by (int_cmp (number r) (number x)) refl (put_rises x rows up.1 new.1)
    where
      by : (o : Ordering) → int_cmp (number r) (number x) ≡ o → NumbersRise number (put_by number x rows) → NumbersRise number (if is_lt o then r ∷ put_by number x rows else x ∷ r ∷ rows)
      by Less is behind = (all_put (λ s. int_cmp (number r) (number s) ≡ Less) x rows is up.0, behind)
      by Equal is behind = absurd (new.0 (int_cmp-IsAntisymmetric (number r) (number x) is))
      by Greater is behind =
          let less : int_cmp (number x) (number r) ≡ Less = int_cmp_total.antisymm (number x) (number r) ∙ ap ordering_reverse is in
          ((less, above_all x r rows less up.0), up)

  -- rows of different numbers, sorted, rise
  each_rises : (xs rows : List Row) → NumbersDiffer number xs → AllByRecursion (λ x. AllByRecursion (λ r. number r ≢ number x) rows) xs → NumbersRise number rows → NumbersRise number (put_each_by number xs rows)
  each_rises [] rows differ new up = up
  each_rises (x ∷ xs) rows differ new up = each_rises xs (put_by number x rows) differ.1 (more xs differ.0 new.1) (put_rises x rows up new.0)
    where
      more : (later : List Row) → AllByRecursion (λ s. number x ≢ number s) later → AllByRecursion (λ s. AllByRecursion (λ r. number r ≢ number s) rows) later → AllByRecursion (λ s. AllByRecursion (λ r. number r ≢ number s) (put_by number x rows)) later
      more [] unlike others = tt
      more (s ∷ later) unlike others = (all_put (λ r. number r ≢ number s) x rows unlike.0 others.0, more later unlike.1 others.1)

  none_there : (xs : List Row) → AllByRecursion (λ x. AllByRecursion (λ r. number r ≢ number x) []) xs
  none_there [] = tt
  none_there (x ∷ xs) = (tt, none_there xs)

  pub sorted_rises : (xs : List Row) → NumbersDiffer number xs → NumbersRise number (sorted_by number xs)
  sorted_rises xs differ = each_rises xs [] differ (none_there xs) tt

  -- ---- the highest number

  -- what is above the last number is above each
  pub above_last : (rows : List Row) (last next : ℤ) → NumbersRise number rows → last_number number rows ≡ Some last → int_cmp last next ≡ Less → NumbersBelow number next rows
  above_last [] last next up is less = tt
  above_last (r ∷ []) last next up is less = let same : last ≡ number r = cc in (subst (λ n. int_cmp n next ≡ Less) same less, tt)
  above_last (r ∷ s ∷ rows) last next up is less =
      let more = above_last (s ∷ rows) last next up.1 is less in
      (int_cmp_total.trans (number r) (number s) next up.0.0 more.0, more)

  -- without a last number there is no row
  pub above_none : (rows : List Row) (next : ℤ) → last_number number rows ≡ None → NumbersBelow number next rows
  above_none [] next is = tt
  above_none (r ∷ rows) next is = absurd cc
