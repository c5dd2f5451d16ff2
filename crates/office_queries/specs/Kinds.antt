-- The names that rules spell, and the kinds of pairs that they don't tell apart, as the code has them.
use Rattle.std.specs.Prelude.{ℕ, ◌&&◌, Bool, List, Option, bytes_eq, option_copied}
use Rattle.std.specs.HashSet.{contains_text}
use Rattle.std.specs.Option.{option_eq}
use denote.Ref.{Bor}
use Rattle.office_rows.specs.Rows.{RuleRow}
use Rattle.office_by_rows.specs.Kinds.{AreSpelled, Kind, kind_of}
use Rattle.office_queries.specs.declared.kinds.Spelled.{Spelled}

-- the collection and the class of each rule are among the names
abbrev pub AreAmong : Spelled → List RuleRow → Type 0
AreAmong spelled = AreSpelled (contains_text spelled.collections) (contains_text spelled.classes)

-- the kind of a collection and a class
abbrev pub kind_by : Spelled → List ℕ → List ℕ → Kind
kind_by spelled = kind_of (contains_text spelled.collections) (contains_text spelled.classes)

-- a kind, by names that are lent
abbrev pub LentKind : Type 0
LentKind = Option (Bor (List ℕ)) × Option (Bor (List ℕ))

abbrev pub kind_lent : LentKind → Kind
kind_lent kind = (option_copied kind.0, option_copied kind.1)

abbrev pub same_name : Option (Bor (List ℕ)) → Option (Bor (List ℕ)) → Bool
same_name = option_eq (λ a b. bytes_eq a.now b.now)

abbrev pub same_kind : LentKind → LentKind → Bool
same_kind a b = same_name a.0 b.0 && same_name a.1 b.1
