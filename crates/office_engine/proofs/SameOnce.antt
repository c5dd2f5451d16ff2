-- Lists without repetitions that have the same elements differ in their order alone.
use Rattle.office_engine.proofs.Common.{◌≡◌, ℕ, List, [], ◌∷◌, filter, not, bytes_eq, Bool, true, false, refl, sym, ap, subst, ◌∙◌, inl, inr, AllByRecursion, IsPermutation, cases_Bool, bytes_eq-Decides, IsPermutation-refl, IsPermutation-sym, IsPermutation-trans, IsPermutation-cons, IsPermutation-middle, Has, all_has, has_filtered, has_kept, IsDistinct}
use Rattle.sqlite_catalog.proofs.ListFacts.{filter_all}
use Rattle.office_core.proofs.OptionLemmas.{by_Bool}

abbrev Texts : Type 0
Texts = List (List ℕ)

abbrev other : List ℕ → List ℕ → Bool
other x y = not (bytes_eq x y)

distinct_filtered : (keep : List ℕ → Bool) (xs : Texts) → IsDistinct bytes_eq xs → IsDistinct bytes_eq (filter keep xs)
unfolding IsDistinct
distinct_filtered keep [] once = tt
distinct_filtered keep (x ∷ xs) once =
    by_Bool (keep x) (λ kept. rw kept (apart xs once.0, distinct_filtered keep xs once.1)) (λ left. rw left (distinct_filtered keep xs once.1))
  where
    apart : (ys : Texts) → AllByRecursion (λ y. bytes_eq x y ≡ false) ys → AllByRecursion (λ y. bytes_eq x y ≡ false) (filter keep ys)
    apart [] all = tt
    apart (y ∷ ys) all = by_Bool (keep y) (λ kept. rw kept (all.0, apart ys all.1)) (λ left. rw left (apart ys all.1))

-- what stands once comes to the front
fronted : (x : List ℕ) (ys : Texts) → IsDistinct bytes_eq ys → Has ys x → IsPermutation ys (x ∷ filter (other x) ys)
unfolding IsDistinct
fronted x [] once there = absurd there
fronted x (y ∷ ys) once there = elim (cases_Bool (bytes_eq x y)) [
  | inl is ↦
      let same : x ≡ y = (bytes_eq-Decides x y).0 is in
      let rest : filter (other x) ys ≡ ys = filter_all (other x) ys (λ z within. ap not (ap (λ a. bytes_eq a z) same ∙ all_has (λ z. bytes_eq y z ≡ false) ys z once.0 within)) in
      rw is (subst (λ zs. IsPermutation (y ∷ ys) (x ∷ zs)) (sym rest) (subst (λ a. IsPermutation (y ∷ ys) (a ∷ ys)) (sym same) (IsPermutation-refl (y ∷ ys))))
  | inr isnt ↦
      let behind : Has ys x = elim there [ inl here ↦ absurd (let is : bytes_eq x y ≡ true = (bytes_eq-Decides x y).1 here in cc) | inr more ↦ more ] in
      rw isnt (IsPermutation-trans _ _ _ (IsPermutation-cons y _ _ (fronted x ys once.1 behind)) (IsPermutation-middle (y ∷ []) x (filter (other x) ys)))
]

pub same_once : (xs ys : Texts) → IsDistinct bytes_eq xs → IsDistinct bytes_eq ys → ((x : List ℕ) → Has xs x → Has ys x) → ((y : List ℕ) → Has ys y → Has xs y) → IsPermutation xs ys
unfolding IsDistinct
same_once [] [] ox oy to back = IsPermutation-refl []
same_once [] (y ∷ ys) ox oy to back = absurd (back y (inl refl))
same_once (x ∷ xs) ys ox oy to back =
    let there = to x (inl refl) in
    let rest = filter (other x) ys in
    let less : IsPermutation xs rest = same_once xs rest ox.1 (distinct_filtered (other x) ys oy)
    (λ z within. has_kept (other x) ys z (to z (inr within)) (ap not (all_has (λ z. bytes_eq x z ≡ false) xs z ox.0 within)))
    (λ z within. let it = has_filtered (other x) ys z within in elim (back z it.0) [
      | inl same ↦ absurd (let is : bytes_eq x z ≡ true = (bytes_eq-Decides x z).1 (sym same) in let no = it.1 in cc)
      | inr more ↦ more
    ]) in
    IsPermutation-trans _ _ _ (IsPermutation-cons x _ _ less) (IsPermutation-sym _ _ (fronted x ys oy there))
