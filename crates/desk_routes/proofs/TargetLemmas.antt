-- The path and the query of a target are its two parts.
use Rattle.desk_routes.proofs.Common.{◌≡◌, ◌≢◌, inl, inr, ℕ, suc, ◌+◌, ◌==◌, List, [], ◌∷◌, ◌++◌, Bool, true, false, cond, refl, sym, ap, ◌∙◌, arith, nat_tests, position_or_len, before_first, after_first, AllByRecursion}
use Rattle.desk_routes.specs.Targets.{Splits, path_part, query_part}
use Rattle.office_core.proofs.OptionLemmas.{by_Bool}

-- the parts of a target are what comes before its first question mark, and after it
parts_cut : (target : List ℕ) → (before_first (λ b. b == 63) target ≡ path_part target) × (after_first (λ b. b == 63) target ≡ query_part target)
parts_cut [] = (refl, refl)
parts_cut (b ∷ rest) =
    let ih = parts_cut rest in
    let front : 1 + position_or_len (λ c. c == 63) rest ≡ suc (position_or_len (λ c. c == 63) rest) = omega arith in
    let back : 1 + position_or_len (λ c. c == 63) rest + 1 ≡ suc (position_or_len (λ c. c == 63) rest + 1) = omega arith in
    by_Bool (b == 63) (λ mark. (rw mark refl, rw mark refl)) (λ other. (rw (other, front) (ap (λ l. b ∷ l) ih.0), rw (other, back) ih.1))

pub path-before : (target : List ℕ) → before_first (λ b. b == 63) target ≡ path_part target
path-before target = (parts_cut target).0

pub query-after : (target : List ℕ) → after_first (λ b. b == 63) target ≡ query_part target
query-after target = (parts_cut target).1

-- ---- the parts are those of the relation

with_query : (path query : List ℕ) → AllByRecursion (λ b. b ≢ 63) path → (path_part (path ++ 63 ∷ query) ≡ path) × (query_part (path ++ 63 ∷ query) ≡ query)
with_query [] query plain = (refl, refl)
with_query (b ∷ path) query plain =
    let other : (b == 63) ≡ false = let n = plain.0 in grind (arith, nat_tests) in
    let rest = with_query path query plain.1 in
    (rw other (ap (λ l. b ∷ l) rest.0), rw other rest.1)

without_query : (path : List ℕ) → AllByRecursion (λ b. b ≢ 63) path → (path_part path ≡ path) × (query_part path ≡ [])
without_query [] plain = (refl, refl)
without_query (b ∷ path) plain =
    let other : (b == 63) ≡ false = let n = plain.0 in grind (arith, nat_tests) in
    let rest = without_query path plain.1 in
    (rw other (ap (λ l. b ∷ l) rest.0), rw other rest.1)

pub parts-split : (target path query : List ℕ) → Splits target path query → (path_part target ≡ path) × (query_part target ≡ query)
parts-split target path query (plain, inl is) = let h = with_query path query plain in rw is h
parts-split target path query (plain, inr is) = let h = without_query path plain in (ap path_part is.0 ∙ h.0, ap query_part is.0 ∙ h.1 ∙ sym is.1)

split-parts : (target : List ℕ) → Splits target (path_part target) (query_part target)
split-parts [] = (tt, inr (refl, refl))
split-parts (b ∷ rest) = by (b == 63) refl (split-parts rest)
  where
    by : (v : Bool) → (b == 63) ≡ v → Splits rest (path_part rest) (query_part rest) → Splits (b ∷ rest) (cond v [] (b ∷ path_part rest)) (cond v rest (query_part rest))
    by true e ih = let same : b ≡ 63 = grind (arith, nat_tests) in (tt, inl (ap (λ c. c ∷ rest) same))
    by false e (plain, inl is) = let other : b ≢ 63 = λ q. grind (arith, nat_tests) in ((other, plain), inl (ap (λ l. b ∷ l) is))
    by false e (plain, inr is) = let other : b ≢ 63 = λ q. grind (arith, nat_tests) in ((other, plain), inr (ap (λ l. b ∷ l) is.0, is.1))

pub split-of-parts : (target path query : List ℕ) → (path_part target ≡ path) × (query_part target ≡ query) → Splits target path query
split-of-parts target path query h = let s = split-parts target in rw h.0 at (rw h.1 at s)
