-- The rows that accepted changes write: one row of the office, every number, name and day in its range, no more of each
-- kind than is allowed, and what a row speaks of is there. That no two rows have one accession, class, collection or
-- caller is not said here, since the keys of the tables' schema refuse such rows.
use Rattle.std.specs.Prelude.{◌≡◌, ℕ, ◌+◌, ◌*◌, ◌≤◌, ◌≤ℤ◌, ◌⊎◌, ℤ, pos, neg_ℤ, List, [], ◌∷◌, length, map, Option, Some, None, IsSome, IfSome, Contains, codes}
use Rattle.std.specs.List.{AllByRecursion}
use Rattle.jiff.specs.Words.{IsBetween}
use Rattle.bag_text.specs.TransferForm.{Fits, max_content, max_files}
use Rattle.office_core.specs.Actions.{action_text}
use Rattle.office_core.specs.Bounds.{max_callers, max_rules, max_years}
use Rattle.office_core.specs.Days.{IsDayNumber}
use Rattle.office_core.specs.Names.{IsName, IsAccession, IsMatter}
use Rattle.office_core.specs.Retention.{IsDueNumber}
use Rattle.office_core.specs.declared.action.Action.{Action}
use Rattle.office_rows.specs.Rows.{OfficeRow, CallerRow, RuleRow, ClassRow, DepositRow, DueRow, FileRow, HoldRow, Tables, IsLimit}
use Rattle.office_history.specs.Lists.{item_numbered}

-- the numbers of the rows are these: n, n + 1, n + 2 and so on
abbrev pub AreNumbered : {Row : Type 0} → (Row → ℤ) → ℕ → List Row → Type 0
AreNumbered number n [] = Unit {0}
AreNumbered number n (row ∷ rows) = (number row ≡ pos n) × AreNumbered number (n + 1) rows

-- ---- one row each

pub record IsOfficeRow (tables_version : ℤ) (row : OfficeRow) : Type 0 where
  pub id : row.id ≡ pos 1
  pub version : row.version ≡ tables_version
  pub max_deposits : IsLimit row.max_deposits
  pub max_holds : IsLimit row.max_holds

pub record IsCallerRow (row : CallerRow) : Type 0 where
  pub name : IsName row.name
  pub role : IsName row.role

-- `*` or a name
abbrev pub IsPatternText : List ℕ → Type 0
IsPatternText text = (text ≡ codes "*") ⊎ IsName text

-- `*` or an action
abbrev pub IsActionText : List ℕ → Type 0
IsActionText text = (text ≡ codes "*") ⊎ ((action : Action) × (text ≡ action_text action))

pub record IsRuleRow (row : RuleRow) : Type 0 where
  pub effect : (row.effect ≡ pos 0) ⊎ (row.effect ≡ pos 1)
  pub role : IsPatternText row.role
  pub action : IsActionText row.action
  pub collection : IsPatternText row.collection
  pub class : IsPatternText row.class
  pub first : IsDayNumber row.first
  pub last : IsDayNumber row.last
  pub in_turn : row.first ≤ℤ row.last

pub record IsClassRow (row : ClassRow) : Type 0 where
  pub name : IsName row.name
  pub years : IsBetween (neg_ℤ (pos 1)) (pos max_years) row.years

-- its collection and its class are there
pub record IsDepositRow (tables : Tables) (row : DepositRow) : Type 0 where
  pub accession : IsAccession row.accession
  pub collection : Contains tables.collections row.collection
  pub class : Contains (map (λ class. class.name) tables.classes) row.class
  pub closed : IsDayNumber row.closed
  pub deposited : IsDayNumber row.deposited
  pub in_turn : row.closed ≤ℤ row.deposited
  pub files : IsBetween (pos 0) (pos max_files) row.files
  pub bytes : IsBetween (pos 0) (pos (max_files * max_content)) row.bytes
  pub gone : IfSome row.gone IsDayNumber

-- a due row: a day from which the deposit may be destroyed, or none, and no more live holds than the office takes
pub record IsDueRow (office : OfficeRow) (row : DueRow) : Type 0 where
  pub due : IfSome row.due IsDueNumber
  pub holds : IsBetween (pos 0) office.max_holds row.holds

-- a file that a bag may have, of a deposit that is there and was not destroyed
pub record IsFileRow (tables : Tables) (row : FileRow) : Type 0 where
  pub file : Fits (record { path = row.path; content = row.content })
  pub number : ℕ
  pub deposit : DepositRow
  pub of_deposit : row.deposit ≡ pos number
  pub there : item_numbered tables.deposits number ≡ Some deposit
  pub kept : deposit.gone ≡ None

-- a deposit, a collection or a class that is there, and one of them alone
abbrev pub IsOneTarget : Tables → Option ℤ → Option (List ℕ) → Option (List ℕ) → Type 0
IsOneTarget tables (Some deposit) None None = (n : ℕ) × (deposit ≡ pos n) × IsSome (item_numbered tables.deposits n)
IsOneTarget tables None (Some collection) None = Contains tables.collections collection
IsOneTarget tables None None (Some class) = Contains (map (λ row. row.name) tables.classes) class
IsOneTarget tables _ _ _ = ⊥

pub record IsHoldRow (tables : Tables) (row : HoldRow) : Type 0 where
  pub target : IsOneTarget tables row.deposit row.collection row.class
  pub matter : IsMatter row.matter
  pub placed : IsDayNumber row.placed
  pub released : IfSome row.released IsDayNumber

-- ---- all rows

pub record AreInRange (version : ℤ) (tables : Tables) : Type 0 where
  pub office_row : OfficeRow
  pub one_office : tables.office ≡ office_row ∷ []
  pub office : IsOfficeRow version office_row
  pub few_deposits : pos (length tables.deposits) ≤ℤ office_row.max_deposits
  pub few_holds : pos (length tables.holds) ≤ℤ office_row.max_holds
  pub few_callers : length tables.callers ≤ max_callers
  pub few_rules : length tables.rules ≤ max_rules
  pub callers : AllByRecursion IsCallerRow tables.callers
  pub rules : AllByRecursion IsRuleRow tables.rules
  pub places : AreNumbered (λ row. row.place) 1 tables.rules
  pub classes : AllByRecursion IsClassRow tables.classes
  pub collections : AllByRecursion IsName tables.collections
  pub deposits : AllByRecursion (IsDepositRow tables) tables.deposits
  pub deposit_numbers : AreNumbered (λ row. row.number) 1 tables.deposits
  pub dues : AllByRecursion (IsDueRow office_row) tables.dues
  pub due_numbers : AreNumbered (λ row. row.number) 1 tables.dues
  pub files : AllByRecursion (IsFileRow tables) tables.files
  pub holds : AllByRecursion (IsHoldRow tables) tables.holds
  pub hold_numbers : AreNumbered (λ row. row.number) 1 tables.holds
