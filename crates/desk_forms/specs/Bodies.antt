-- What the bodies of routes say. A body is a JSON text (RFC 8259) in UTF-8 (its section 8.1), as `serde_json` reads it: of a key that occurs twice in an object the last value stays, and the members are in the order of their keys. Which objects a route takes is Depot's own rule.
use Rattle.std.specs.Prelude.{◌≡◌, ℕ, ◌≤◌, List, Option, Some, None, IsUtf8, codes}
use Rattle.serde_json.specs.Data.{Data, null, number, string, object, no_members, member, unsigned}
use Rattle.serde_json.specs.Read.{read}
use Rattle.office_core.specs.Names.{IsName, IsMatter}
use Rattle.office_core.specs.Requests.{IsYears}
use Rattle.desk_forms.specs.declared.body.HoldBody.{HoldBody}
use Rattle.desk_forms.specs.declared.body.HoldBody.TheVariants.{Deposit, Collection, Class}

-- the body is a JSON text of this value
abbrev pub IsJsonOf : List ℕ → Data → Type 0
IsJsonOf body value = IsUtf8 body × (read body ≡ Some value)

-- a whole number of years, or `null` for permanent
abbrev pub years_data : Option ℕ → Data
years_data None = null
years_data (Some n) = number (unsigned n)

-- `{"years":n}`
abbrev pub years_object : Option ℕ → Data
years_object years = object (member (codes "years") (years_data years) no_members)

-- what the body of a class says of its years
pub record SaysYears (body : List ℕ) (years : Option ℕ) : Type 0 where
  pub json : IsJsonOf body (years_object years)
  pub range : IsYears years

-- the greatest number that a body names a deposit by
abbrev pub max_deposit : ℕ
max_deposit = 9_999_999

-- `{"deposit":n,"matter":".."}`, `{"collection":"..","matter":".."}`, or `{"class":"..","matter":".."}`
abbrev pub hold_object : HoldBody → Data
hold_object (Deposit deposit matter) =
    object (member (codes "deposit") (number (unsigned deposit)) (member (codes "matter") (string matter) no_members))
hold_object (Collection collection matter) =
    object (member (codes "collection") (string collection) (member (codes "matter") (string matter) no_members))
hold_object (Class class matter) =
    object (member (codes "class") (string class) (member (codes "matter") (string matter) no_members))

-- what a body may name a deposit by: a whole number from 1 to 9,999,999
abbrev pub IsDepositNumber : ℕ → Type 0
IsDepositNumber deposit = (1 ≤ deposit) × (deposit ≤ max_deposit)

-- its number is one of a deposit, its name a name, and its matter a matter
abbrev pub IsHoldBody : HoldBody → Type 0
IsHoldBody (Deposit deposit matter) = IsDepositNumber deposit × IsMatter matter
IsHoldBody (Collection collection matter) = IsName collection × IsMatter matter
IsHoldBody (Class class matter) = IsName class × IsMatter matter

-- what the body of a hold says: which deposit, collection or class is held, and for which matter
pub record SaysHold (body : List ℕ) (hold : HoldBody) : Type 0 where
  pub json : IsJsonOf body (hold_object hold)
  pub form : IsHoldBody hold
