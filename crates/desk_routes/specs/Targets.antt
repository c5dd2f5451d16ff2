-- The target of a request: a path and a query. RFC 9112, section 3.2.1, has the target, and RFC 3986, sections 3.3 and 3.4, its
-- parts. That a target with nothing after its `?` has the same query as one without a `?`, the empty one, is Depot's own rule.
use Rattle.std.specs.Prelude.{◌≡◌, ◌≢◌, ◌⊎◌, ℕ, ◌==◌, List, [], ◌∷◌, ◌++◌, if◌then◌else◌}
use Rattle.std.specs.List.{AllByRecursion}

-- the path is what comes before the first `?`, and the query is what follows it
abbrev pub Splits : List ℕ → List ℕ → List ℕ → Type 0
Splits target path query = AllByRecursion (λ b. b ≢ 63) path × ((target ≡ path ++ 63 ∷ query) ⊎ ((target ≡ path) × (query ≡ [])))

-- ---- the same, found from the target

abbrev pub path_part : List ℕ → List ℕ
path_part [] = []
path_part (b ∷ rest) = if b == 63 then [] else b ∷ path_part rest

abbrev pub query_part : List ℕ → List ℕ
query_part [] = []
query_part (b ∷ rest) = if b == 63 then rest else query_part rest
