-- What reading the JSON of a body gives, step by step. Which objects and values are taken is Depot's own rule.
use Rattle.std.specs.Prelude.{ℕ, List, nat_le, nat_eq, Option, Some, None, if◌then◌else◌, String, string_bytes}
use Rattle.std.specs.Borrow.{Bor}
use Rattle.std.specs.declared.alloc.Global.{Global}
use Rattle.std.specs.Cmp.Lexicographic.{pointwise}
use Rattle.serde_json.specs.Data.{Data, null, boolean, number, string, array, object, Members, no_members, member, unsigned, negative, float}
use Rattle.serde_json.specs.View.{view}
use Rattle.serde_json.specs.declared.value.Value.{Value}
use Rattle.office_core.specs.Bounds.{max_years}

-- the years that a value is
abbrev pub years_in : Data → Option (Option ℕ)
years_in null = Some None
years_in (boolean b) = None
years_in (number (unsigned n)) = if nat_le n max_years then Some (Some n) else None
years_in (number (negative z)) = None
years_in (number (float x)) = None
years_in (string s) = None
years_in (array ds) = None
years_in (object ms) = None

-- the value of the one member, under this key
abbrev pub only_in : List ℕ → Members → Option Data
only_in key no_members = None
only_in key (member k d no_members) = if pointwise nat_eq k key then Some d else None
only_in key (member k d (member l e ms)) = None

abbrev pub only_member : List ℕ → Data → Option Data
only_member key null = None
only_member key (boolean b) = None
only_member key (number n) = None
only_member key (string s) = None
only_member key (array ds) = None
only_member key (object ms) = only_in key ms

-- a member of an object of the code: its key and its value
abbrev pub member_view : Bor (String Global) × Bor Value → List ℕ × Data
member_view m = (string_bytes m.0.now, view m.1.now)

-- the object with these two members, in this order
abbrev pub two_object : List ℕ → Data → List ℕ → Data → Data
two_object k d l e = object (member k d (member l e no_members))

-- the two members of an object that has two
abbrev pub two_in : Members → Option ((List ℕ × Data) × (List ℕ × Data))
two_in no_members = None
two_in (member k d no_members) = None
two_in (member k d (member l e no_members)) = Some ((k, d), (l, e))
two_in (member k d (member l e (member m f ms))) = None

abbrev pub two_members : Data → Option ((List ℕ × Data) × (List ℕ × Data))
two_members null = None
two_members (boolean b) = None
two_members (number n) = None
two_members (string s) = None
two_members (array ds) = None
two_members (object ms) = two_in ms
