-- What the fields of a head say under a name, which may occur on several lines (RFC 9110, section 5.2). That such lines are counted and not joined is Depot's own rule.
use Rattle.std.specs.Prelude.{ℕ, Bool, List, [], ◌∷◌, map, filter}
use Rattle.std.specs.Str.{str_eq_ignore_ascii_case}
use Rattle.httparse.specs.Grammar.{RequestHead}
use Rattle.httparse.specs.Spans.{name_and_value}

-- the fields of a head, each a name and a value without the blanks round it (RFC 9112, section 5)
abbrev pub fields_of : RequestHead → List (List ℕ × List ℕ)
fields_of head = map name_and_value head.fields

-- names are compared without ASCII case (RFC 9110, section 5.1)
abbrev pub is_named : List ℕ → List ℕ × List ℕ → Bool
is_named name field = str_eq_ignore_ascii_case field.0 name

-- the values of the fields of a name, in their order
abbrev pub values_among : List ℕ → List (List ℕ × List ℕ) → List (List ℕ)
values_among name fields = map (λ field. field.1) (filter (is_named name) fields)

abbrev pub values_of : List ℕ → RequestHead → List (List ℕ)
values_of name head = values_among name (fields_of head)

-- how often a field occurs, and its value where it occurs once
pub data Occurrence : Type 0 where
  absent repeated : Occurrence
  once : List ℕ → Occurrence

abbrev pub occurrence_of : List (List ℕ) → Occurrence
occurrence_of [] = absent
occurrence_of (value ∷ []) = once value
occurrence_of (value ∷ second ∷ more) = repeated
