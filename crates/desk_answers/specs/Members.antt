-- ---- for private clauses: objects, from lists of their members
use Rattle.std.specs.Prelude.{ℕ, List, map}
use Rattle.std.specs.List.{fold}
use Rattle.std.specs.Borrow.{Bor}
use Rattle.serde_json.specs.Data.{Data, boolean, string, object, Members, no_members, put}
use Rattle.bag_text.specs.Declaration.{version_text}
use Rattle.office_core.specs.Days.{day_text}
use Rattle.desk_answers.specs.Objects.{whole, list_of}
use Rattle.desk_answers.specs.Bodies.{years_data}
use Rattle.desk_answers.specs.Rows.{due_text}
use Rattle.desk_answers.specs.declared.object.MemberValue.{MemberValue}
use Rattle.desk_answers.specs.declared.object.MemberValue.TheVariants.{Number, Numbers, Text, Flag, Day, Due, Years, Version}

-- the value of a member
abbrev pub member_data : MemberValue → Data
member_data (Number n) = whole n
member_data (Numbers ns) = list_of (map whole ns.now)
member_data (Text text) = string text.now
member_data (Flag flag) = boolean flag
member_data (Day day) = string (day_text day)
member_data (Due due) = string (due_text due)
member_data (Years years) = years_data years
member_data (Version version) = string (version_text version)

-- the members with one more, in the order of the keys
abbrev pub with_member : Members → Bor (List ℕ) × MemberValue → Members
with_member ms m = put m.0.now (member_data m.1) ms

-- the object of these members
abbrev pub object_with : List (Bor (List ℕ) × MemberValue) → Data
object_with ms = object (fold with_member no_members ms)
