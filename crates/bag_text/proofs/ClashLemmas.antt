-- Paths that lie under others.
use Rattle.bag_text.proofs.FirstLemmas.{false_from_ne_true, any_has, has_contains, ◌≡◌, ℕ, ◌<◌, ◌⊎◌, inl, inr, Bool, true, false, eqb, ◌&&◌, ◌||◌, List, [], ◌∷◌, ◌++◌, length, get_or, drop, refl, ap, ◌∙◌, arith, append_assoc, bytes_eq, codes, Contains, list_any, or_cases, or_right, Decides-eqb, nat_tests, starts_is, bytes_eq-Decides, begins_with, list_any_at, lies_under, File, Clashes, clashes, ◌↔◌}

same : (a : ℕ) → eqb a a ≡ true
same a = grind (arith, nat_tests)

slash : (b : ℕ) → (eqb 47 b && true) ≡ eqb b 47
slash b = grind (arith, nat_tests)

pub under_rest : (outer rest : List ℕ) → lies_under outer (outer ++ rest) ≡ begins_with 47 rest
under_rest [] [] = refl
under_rest [] (b ∷ rest) = slash b
under_rest (a ∷ outer) rest = rw (same a) (under_rest outer rest)

pub not_under : (outer inner : List ℕ) → ((rest : List ℕ) → inner ≡ outer ++ rest → ⊥) → lies_under outer inner ≡ false
not_under outer inner apart = false_from_ne_true (lies_under outer inner) (λ e.
    let is = (starts_is Decides-eqb inner (outer ++ 47 ∷ []) (lies_under outer inner) refl).0 e in
    apart (47 ∷ drop (length (outer ++ 47 ∷ [])) inner) (is ∙ append_assoc outer (47 ∷ []) (drop (length (outer ++ 47 ∷ [])) inner)))

-- a path is `data`, or begins one of the files as a folder does
abbrev pub clash_at : List File → File → Bool
clash_at files f = bytes_eq f.path (codes "data") || list_any (λ g. lies_under f.path g.path) files

-- ---- the test and the relation

-- Some file passes a test exactly where the test of all says so.
any_found : {X : Type 0} (test : X → Bool) (xs : List X) → list_any test xs ≡ true → (x : X) × Contains xs x × (test x ≡ true)
any_found test xs e = let found = any_has test xs e in (found.0, has_contains xs found.0 found.1, found.2)

any_holds : {X : Type 0} (test : X → Bool) (xs : List X) (x : X) (k : ℕ) → k < length xs → get_or xs k x ≡ x → test x ≡ true → list_any test xs ≡ true
any_holds test xs x k lt is e = list_any_at test xs k x lt (ap test is ∙ e)

-- A path lies under another exactly where it is that path, a slash and more.
under_rest_of : (outer inner : List ℕ) → lies_under outer inner ≡ true → (rest : List ℕ) × (inner ≡ outer ++ 47 ∷ rest)
under_rest_of outer inner e =
    let is = (starts_is Decides-eqb inner (outer ++ 47 ∷ []) (lies_under outer inner) refl).0 e in
    (drop (length (outer ++ 47 ∷ [])) inner, is ∙ append_assoc outer (47 ∷ []) (drop (length (outer ++ 47 ∷ [])) inner))

-- Paths clash exactly where the test says so.
pub clash_law : (files : List File) → Clashes files ↔ (clashes files ≡ true)
clash_law files = (stands, found)
  where
    is_so : (f : File) → (f.path ≡ codes "data") ⊎ ((g : File) × (rest : List ℕ) × Contains files g × (g.path ≡ f.path ++ 47 ∷ rest)) → clash_at files f ≡ true
    is_so f (inl named) = let same = (bytes_eq-Decides f.path (codes "data")).1 named in rw same refl
    is_so f (inr (g, rest, at, is)) =
        let lies : lies_under f.path g.path ≡ true = ap (lies_under f.path) is ∙ under_rest f.path (47 ∷ rest) in
        let some = any_holds (λ g. lies_under f.path g.path) files g at.0 at.1 at.2 lies in
        rw some (or_right (bytes_eq f.path (codes "data")) true refl)

    stands : Clashes files → clashes files ≡ true
    stands (f, at, why) = any_holds (clash_at files) files f at.0 at.1 at.2 (is_so f why)

    why_so : (f : File) → clash_at files f ≡ true → (f.path ≡ codes "data") ⊎ ((g : File) × (rest : List ℕ) × Contains files g × (g.path ≡ f.path ++ 47 ∷ rest))
    why_so f e = elim (or_cases (bytes_eq f.path (codes "data")) (list_any (λ g. lies_under f.path g.path) files) e) [
      | inl same ↦ inl ((bytes_eq-Decides f.path (codes "data")).0 same)
      | inr some ↦
          let at = any_found (λ g. lies_under f.path g.path) files some in
          let rest = under_rest_of f.path at.0.path at.2 in
          inr (at.0, rest.0, at.1, rest.1)
    ]

    found : clashes files ≡ true → Clashes files
    found e = let at = any_found (clash_at files) files e in (at.0, at.1, why_so at.0 at.2)
