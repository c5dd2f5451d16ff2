-- Kinds of pairs of a collection and a class, which rules don't tell apart.
use Rattle.std.specs.Prelude.{◌≡◌, ℕ, Bool, true, List, Option, Some, None, if◌then◌else◌}
use Rattle.std.specs.List.{AllByRecursion}
use Rattle.office_rows.specs.Rows.{RuleRow}

-- the collection of each rule is spelled, and so is the class
abbrev pub AreSpelled : (List ℕ → Bool) → (List ℕ → Bool) → List RuleRow → Type 0
AreSpelled collections classes = AllByRecursion (λ r. (collections r.collection ≡ true) × (classes r.class ≡ true))

-- a name that isn't spelled is as any other such name
abbrev pub if_spelled : (List ℕ → Bool) → List ℕ → Option (List ℕ)
if_spelled spelled name = if spelled name then Some name else None

abbrev pub Kind : Type 0
Kind = Option (List ℕ) × Option (List ℕ)

-- by the collections and the classes that are spelled
abbrev pub kind_of : (List ℕ → Bool) → (List ℕ → Bool) → List ℕ → List ℕ → Kind
kind_of collections classes collection class = (if_spelled collections collection, if_spelled classes class)
