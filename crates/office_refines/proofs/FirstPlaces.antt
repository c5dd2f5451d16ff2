-- Texts once, at their first place, when one more comes last.
use Rattle.office_refines.proofs.Common.{◌≡◌, ℕ, Bool, true, ◌||◌, List, [], ◌∷◌, ◌++◌, refl, ap, ◌∙◌, if◌then◌else◌, bytes_eq, list_any, bytes_eq-Decides, distinct_after, in_first_places, by_Bool, arith}

passed : (s e r : Bool) → (e ≡ true → s ≡ true) → (s || r) ≡ (s || (e || r))
passed s e r k = grind (arith, k)

moved : (s e r : Bool) → ((e || s) || r) ≡ (s || (e || r))
moved s e r = grind arith

-- a text that comes last is kept where it wasn't there
distinct_last : (seen xs : List (List ℕ)) (x : List ℕ) → distinct_after seen (xs ++ x ∷ []) ≡ distinct_after seen xs ++ (if list_any (bytes_eq x) seen || list_any (bytes_eq x) xs then [] else x ∷ [])
distinct_last seen [] x = by_Bool (list_any (bytes_eq x) seen) (λ before. rw before refl) (λ new. rw new refl)
distinct_last seen (y ∷ xs) x =
    by_Bool (list_any (bytes_eq y) seen)
    (λ before. rw before (distinct_last seen xs x ∙ ap (λ b. distinct_after seen xs ++ (if b then [] else x ∷ []))
    (passed (list_any (bytes_eq x) seen) (bytes_eq x y) (list_any (bytes_eq x) xs) (λ e. ap (λ z. list_any (bytes_eq z) seen) ((bytes_eq-Decides x y).0 e) ∙ before))))
    (λ new. rw new (ap (λ zs. y ∷ zs) (distinct_last (y ∷ seen) xs x
    ∙ ap (λ b. distinct_after (y ∷ seen) xs ++ (if b then [] else x ∷ [])) (moved (list_any (bytes_eq x) seen) (bytes_eq x y) (list_any (bytes_eq x) xs)))))

pub first_places_last : (xs : List (List ℕ)) (x : List ℕ) → in_first_places (xs ++ x ∷ []) ≡ in_first_places xs ++ (if list_any (bytes_eq x) xs then [] else x ∷ [])
first_places_last xs x = distinct_last [] xs x
