-- Values of JSON (RFC 8259), as `serde_json` has them: an object has its members in ascending order of their keys.
use Rattle.std.specs.Prelude.{ℕ, List, [], ◌∷◌}
use Rattle.serde_json.specs.Data.{Data, number, unsigned, array, object, Members, no_members, member}
use Rattle.serde_json.specs.View.{items_of}

abbrev pub members_of : List (List ℕ × Data) → Members
members_of [] = no_members
members_of (m ∷ ms) = member m.0 m.1 (members_of ms)

-- the object with these members
abbrev pub object_of : List (List ℕ × Data) → Data
object_of ms = object (members_of ms)

-- a whole number
abbrev pub whole : ℕ → Data
whole n = number (unsigned n)

-- the list of these values
abbrev pub list_of : List Data → Data
list_of values = array (items_of values)
