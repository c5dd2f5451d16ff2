-- What reading the keys of a query gives, step by step. Which keys a route takes is Depot's own rule.
use Rattle.std.specs.Prelude.{ℕ, List, Bool}
use Rattle.std.specs.List.{list_all}
use Rattle.office_core.specs.Policies.{is_one_of}

-- each pair has one of these keys
abbrev pub has_only : List (List ℕ) → List (List ℕ × List ℕ) → Bool
has_only keys pairs = list_all (λ p. is_one_of keys p.0) pairs
