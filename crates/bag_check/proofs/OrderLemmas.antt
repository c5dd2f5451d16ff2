-- The order of paths by bytes, and what comes first in an ascending list.
use Rattle.bag_check.proofs.Common.{sym, ap, false≢true, ◌≡◌, ℕ, ◌⊎◌, inl, inr, Bool, true, false, cond, List, [], ◌∷◌, refl, subst, ◌∙◌, Option, Some, None, find, bytes_eq-Decides, comes_before, path_cmp, less, before_chain, Has, is_lt, is_eq, ordering_reverse}
use Rattle.std.specs.declared.cmp.Ordering.{Ordering}
use Rattle.std.specs.declared.cmp.Ordering.TheVariants.{Less}
use Rattle.std.proofs.lemmas.Cmp.{nat_list_cmp_total}
use Rattle.std.proofs.lemmas.Map.Text.{is_eq-slice_cmp}
use Rattle.bag_text.proofs.CaseLemmas.{by_Ordering}

-- ---- the order by bytes

-- Less is not its own reverse
never : (o : Ordering) → o ≡ Less → o ≡ ordering_reverse o → ⊥
never Less e r = absurd cc
never _ e r = absurd cc

-- no path comes before itself
pub apart : (a : List ℕ) → comes_before a a ≡ true → ⊥
apart a h = never (path_cmp a a) (less (path_cmp a a) h) (nat_list_cmp_total.antisymm a a)

-- of two paths that aren't the same one comes before the other
pub one_first : (a b : List ℕ) → (comes_before a b ≡ true → ⊥) → (comes_before b a ≡ true → ⊥) → a ≡ b
one_first a b not_less not_greater = by_Ordering (path_cmp a b)
    (λ e. absurd (not_less (ap is_lt e)))
    (λ e. (bytes_eq-Decides a b).0 (sym (is_eq-slice_cmp a b) ∙ ap is_eq e))
    (λ e. absurd (not_greater (ap is_lt (nat_list_cmp_total.antisymm b a ∙ ap ordering_reverse e))))

-- ---- ascending lists

-- each greater than the one before it
abbrev pub Up : List ℕ → List (List ℕ) → Type 0
Up before [] = Unit {0}
Up before (p ∷ ps) = (comes_before before p ≡ true) × Up p ps

-- in an ascending list, whatever its first is
abbrev pub Ascending : List (List ℕ) → Type 0
Ascending [] = Unit {0}
Ascending (p ∷ ps) = Up p ps

-- each path after the first one comes after it
pub later_path : (p : List ℕ) (ps : List (List ℕ)) → Up p ps → (q : List ℕ) → Has ps q → comes_before p q ≡ true
later_path p [] up q none = absurd none
later_path p (x ∷ ps) up q (inl is) = subst (λ (y : List ℕ). comes_before p y ≡ true) is up.0
later_path p (x ∷ ps) up q (inr more) = before_chain p x q up.0 (later_path x ps up.1 q more)

-- what follows in an ascending list ascends
pub ascending_rest : (p : List ℕ) (ps : List (List ℕ)) → Up p ps → Ascending ps
ascending_rest p [] up = tt
ascending_rest p (q ∷ ps) up = up.1

-- ---- the least path

-- the least path of which S holds, or none
abbrev pub IsLeastPath : (List ℕ → Type 0) → Option (List ℕ) → Type 0
IsLeastPath S None = (path : List ℕ) → S path → ⊥
IsLeastPath S (Some path) = S path × ((other : List ℕ) → S other → comes_before other path ≡ true → ⊥)

-- the first that passes a test in an ascending list is the least
pub find_is_least : (test : List ℕ → Bool) (ps : List (List ℕ)) → Ascending ps → IsLeastPath (λ path. Has ps path × (test path ≡ true)) (find test ps)
find_is_least test [] up = λ path h. h.0
find_is_least test (p ∷ ps) up = by_test (test p) refl (find_is_least test ps (ascending_rest p ps up))
  where
    first : test p ≡ true → (other : List ℕ) → (p ≡ other) ⊎ Has ps other → comes_before other p ≡ true → ⊥
    first e other (inl is) before = apart p (subst (λ (y : List ℕ). comes_before y p ≡ true) (sym is) before)
    first e other (inr more) before = apart p (before_chain p other p (later_path p ps up other more) before)

    not_first : test p ≡ false → (other : List ℕ) → ((p ≡ other) ⊎ Has ps other) × (test other ≡ true) → Has ps other × (test other ≡ true)
    not_first e other (inl is, passes) = absurd (false≢true (sym e ∙ ap test is ∙ passes))
    not_first e other (inr more, passes) = (more, passes)

    skip : test p ≡ false → (found : Option (List ℕ)) → IsLeastPath (λ path. Has ps path × (test path ≡ true)) found → IsLeastPath (λ path. Has (p ∷ ps) path × (test path ≡ true)) found
    skip e None least = λ path h. least path (not_first e path h)
    skip e (Some path) least = ((inr least.0.0, least.0.1), λ other h. least.1 other (not_first e other h))

    by_test : (x : Bool) → test p ≡ x → IsLeastPath (λ path. Has ps path × (test path ≡ true)) (find test ps)
        → IsLeastPath (λ path. Has (p ∷ ps) path × (test path ≡ true)) (cond x (Some p) (find test ps))
    by_test true e later = ((inl refl, e), λ other h. first e other h.0)
    by_test false e later = skip e (find test ps) later
