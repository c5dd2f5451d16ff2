-- The history of an office: its limits, and the changes that it accepted, the oldest first. Whatever the office knows
-- is read off this list as a whole: no count, no due day and no cover is stored beside it.
use Rattle.std.specs.Prelude.{ℕ, ◌+◌, ◌==◌, ◌&&◌, Bool, false, List, [], ◌++◌, length, filter, Option, Some, None, is_some, is_none, option_map, unwrap_or, position, slice_get, bytes_eq, if◌then◌else◌}
use Rattle.std.specs.List.{list_any, filter_map}
use Rattle.std.specs.Option.{option_map_or}
use Rattle.jiff.specs.Types.{Date}
use Rattle.bag_text.specs.TransferForm.{File}
use Rattle.office_core.specs.Descriptions.{Description}
use Rattle.office_core.specs.Policies.{PolicyValue}
use Rattle.office_core.specs.RetentionReading.{due_of}
use Rattle.office_core.specs.declared.retention.Due.{Due}
use Rattle.office_core.specs.declared.retention.Due.TheVariants.{Never}
use Rattle.office_history.specs.Lists.{first_said, last_said, item_numbered, numbers}

-- ---- changes

-- what a hold names
pub data Target : Type 0 where
  OnDeposit : ℕ → Target
  OnCollection : List ℕ → Target
  OnClass : List ℕ → Target

pub record Deposit : Type 0 where
  pub description : Description
  pub bag : List File

pub record Hold : Type 0 where
  pub target : Target
  pub matter : List ℕ

-- an accepted change, with its day, which an install of a policy has none of
pub data Change : Type 0 where
  Installed : PolicyValue → Change
  DefinedClass : Date → List ℕ → Option ℕ → Change
  DefinedCollection : Date → List ℕ → Change
  Deposited : Date → Deposit → Change
  PlacedHold : Date → Hold → Change
  ReleasedHold : Date → ℕ → Change
  Destroyed : Date → ℕ → Change

pub record History : Type 0 where
  -- how many deposits, and how many holds, are accepted at most
  pub max_deposits : ℕ
  pub max_holds : ℕ
  pub changes : List Change

-- the history with further changes
abbrev pub with_changes : History → List Change → History
with_changes h more = record h { changes = h.changes ++ more }

-- ---- the policy: the one that was installed last

abbrev pub installed_in : Change → Option PolicyValue
installed_in (Installed policy) = Some policy
installed_in _ = None

abbrev pub no_policy : PolicyValue
no_policy = record { callers = []; rules = [] }

abbrev pub policy : History → PolicyValue
policy h = unwrap_or (last_said installed_in h.changes) no_policy

-- ---- classes and collections

-- the years that a change gives the class of that name
abbrev pub years_in : List ℕ → Change → Option (Option ℕ)
years_in name (DefinedClass day class years) = if bytes_eq class name then Some years else None
years_in name _ = None

-- the present years of a class, where there is such a class
abbrev pub years_of : History → List ℕ → Option (Option ℕ)
years_of h name = last_said (years_in name) h.changes

abbrev pub has_class : History → List ℕ → Bool
has_class h name = is_some (years_of h name)

abbrev pub collection_in : Change → Option (List ℕ)
collection_in (DefinedCollection day name) = Some name
collection_in _ = None

-- in the order in which they were defined
abbrev pub collections : History → List (List ℕ)
collections h = filter_map collection_in h.changes

abbrev pub has_collection : History → List ℕ → Bool
has_collection h name = list_any (bytes_eq name) (collections h)

-- ---- deposits: the n-th that was accepted has the number n, from 1

abbrev pub deposit_in : Change → Option (Date × Deposit)
deposit_in (Deposited day deposit) = Some (day, deposit)
deposit_in _ = None

-- with the day of each
abbrev pub deposits : History → List (Date × Deposit)
deposits h = filter_map deposit_in h.changes

abbrev pub deposit_numbered : History → ℕ → Option (Date × Deposit)
deposit_numbered h n = item_numbered (deposits h) n

abbrev pub has_accession : List ℕ → Date × Deposit → Bool
has_accession accession found = bytes_eq found.1.description.accession accession

-- the number of the deposit that has this accession, kept or destroyed
abbrev pub accession_of : History → List ℕ → Option ℕ
accession_of h accession = option_map (λ at. at + 1) (position (has_accession accession) (deposits h))

abbrev pub destroyed_in : ℕ → Change → Option Date
destroyed_in n (Destroyed day number) = if number == n then Some day else None
destroyed_in n _ = None

-- the day on which the deposit was destroyed, if it was
abbrev pub destruction_day : History → ℕ → Option Date
destruction_day h n = first_said (destroyed_in n) h.changes

-- the numbers of the deposits that are kept, ascending
abbrev pub kept_numbers : History → List ℕ
kept_numbers h = filter (λ n. is_none (destruction_day h n)) (numbers (length (deposits h)))

-- the day from which a deposit may be destroyed, by the present years of its class
abbrev pub due : History → Deposit → Due
due h deposit = option_map_or (due_of deposit.description.closed) (years_of h deposit.description.class) Never

-- ---- holds: the k-th that was accepted has the number k, from 1

abbrev pub hold_in : Change → Option (Date × Hold)
hold_in (PlacedHold day hold) = Some (day, hold)
hold_in _ = None

abbrev pub holds : History → List (Date × Hold)
holds h = filter_map hold_in h.changes

abbrev pub hold_numbered : History → ℕ → Option (Date × Hold)
hold_numbered h k = item_numbered (holds h) k

abbrev pub released_in : ℕ → Change → Option Date
released_in k (ReleasedHold day number) = if number == k then Some day else None
released_in k _ = None

-- the day on which the hold was released, if it was
abbrev pub release_day : History → ℕ → Option Date
release_day h k = first_said (released_in k) h.changes

-- a hold is live until it is released
abbrev pub is_live : History → ℕ → Bool
is_live h k = is_none (release_day h k)

-- a hold on a deposit covers it, one on a collection each deposit of the collection, and one on a class each deposit of
-- the class, whichever came first
abbrev pub reaches : Target → ℕ → Deposit → Bool
reaches (OnDeposit number) n deposit = number == n
reaches (OnCollection name) n deposit = bytes_eq name deposit.description.collection
reaches (OnClass name) n deposit = bytes_eq name deposit.description.class

abbrev pub covers : History → ℕ → ℕ → Deposit → Bool
covers h k n deposit = option_map_or (λ hold. reaches hold.1.target n deposit) (hold_numbered h k) false

-- the numbers of the live holds that cover a deposit, ascending
abbrev pub live_holds : History → ℕ → Deposit → List ℕ
live_holds h n deposit = filter (λ k. is_live h k && covers h k n deposit) (numbers (length (holds h)))

-- the least of them, if there is one
abbrev pub least_hold : History → ℕ → Deposit → Option ℕ
least_hold h n deposit = slice_get (live_holds h n deposit) 0
