-- What is known of what the rules let a caller do with the deposits of a collection and a class.
use Rattle.std.specs.Prelude.{◌≡◌, ℕ, Bool, List, Some, IfSome}
use Rattle.std.specs.HashMap.{get}
use Rattle.jiff.specs.Types.{Date}
use Rattle.office_core.specs.declared.action.Action.{Action}
use Rattle.office_rows.specs.Rows.{Tables}
use Rattle.office_by_rows.specs.Answers.{is_allowed_for}
use Rattle.office_by_rows.specs.Kinds.{Kind}
use Rattle.office_access.specs.Asking.{role_name}
use Rattle.office_queries.specs.Kinds.{AreAmong, LentKind, kind_by, kind_lent, same_kind}
use Rattle.office_queries.specs.declared.allowances.Allowances.{Allowances}
use Rattle.office_queries.specs.declared.kinds.Spelled.{Spelled}

-- what the rows of the rules say of each pair of the kind
abbrev pub IsToldOf : Tables → List ℕ → Date → Action → Spelled → Kind → Bool → Type 0
IsToldOf t role day action spelled kind is = (collection class : List ℕ) → kind_by spelled collection class ≡ kind → is_allowed_for t role day action collection class ≡ Some is

-- they are those of this role, this day and this action, and what is known of a kind is what the rows of the rules say of each pair of it
pub record AreFor (t : Tables) (role : List ℕ) (day : Date) (action : Action) (these : Allowances) : Type 0 where
  pub role_is : role_name these.asker.now ≡ role
  pub day_is : these.asker.now.day ≡ day
  pub action_is : these.action ≡ action
  pub among : AreAmong these.spelled t.rules
  pub right : (kind : LentKind) → IfSome (get same_kind these.known kind) (IsToldOf t role day action these.spelled (kind_lent kind))
