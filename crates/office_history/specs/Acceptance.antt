-- What was so where a change was accepted: what it says is in range, and the history before it allowed it.
use Rattle.std.specs.Prelude.{◌≡◌, ℕ, ◌<◌, ◌≤ℤ◌, true, false, List, [], length, Some, None, IsSome, Ok}
use Rattle.jiff.specs.Types.{Date}
use Rattle.jiff.specs.Words.{epoch_day}
use Rattle.office_core.specs.Days.{IsDay}
use Rattle.office_core.specs.Descriptions.{IsDescription}
use Rattle.office_core.specs.Names.{IsName, IsMatter}
use Rattle.office_core.specs.Policies.{IsPolicy}
use Rattle.office_core.specs.Requests.{IsYears}
use Rattle.office_core.specs.declared.retention.Due.TheVariants.{On}
use Rattle.office_history.specs.Histories.{History, Change, Installed, DefinedClass, DefinedCollection, Deposited, PlacedHold, ReleasedHold, Destroyed, Deposit, Hold, Target, OnDeposit, OnCollection, OnClass, has_class, has_collection, deposits, deposit_numbered, accession_of, destruction_day, due, holds, hold_numbered, release_day, live_holds}
use Rattle.office_history.specs.Bags.{bag_of}

-- ---- what a change says

abbrev pub IsTarget : Target → Type 0
IsTarget (OnDeposit n) = Unit {0}
IsTarget (OnCollection name) = IsName name
IsTarget (OnClass name) = IsName name

pub record IsHold (hold : Hold) : Type 0 where
  pub target : IsTarget hold.target
  pub matter : IsMatter hold.matter

-- a change in range
abbrev pub IsChange : Change → Type 0
IsChange (Installed policy) = IsPolicy policy
IsChange (DefinedClass day name years) = IsDay day × IsName name × IsYears years
IsChange (DefinedCollection day name) = IsDay day × IsName name
IsChange (Deposited day deposit) = IsDay day × IsDescription deposit.description
IsChange (PlacedHold day hold) = IsDay day × IsHold hold
IsChange (ReleasedHold day k) = IsDay day
IsChange (Destroyed day n) = IsDay day

-- ---- what the history before it allowed

-- The collection and the class are there, the accession is new, the records were closed by that day, the bag was read
-- from its transfer form, and the office takes one deposit more.
pub record IsDepositable (h : History) (day : Date) (deposit : Deposit) : Type 0 where
  pub collection : has_collection h deposit.description.collection ≡ true
  pub class : has_class h deposit.description.class ≡ true
  pub new_accession : accession_of h deposit.description.accession ≡ None
  pub closed : epoch_day deposit.description.closed ≤ℤ epoch_day day
  pub form : List ℕ
  pub read : bag_of form ≡ Ok deposit.bag
  pub room : length (deposits h) < h.max_deposits

-- what a hold names: a deposit, a collection or a class that is there
abbrev pub IsThere : History → Target → Type 0
IsThere h (OnDeposit n) = IsSome (deposit_numbered h n)
IsThere h (OnCollection name) = has_collection h name ≡ true
IsThere h (OnClass name) = has_class h name ≡ true

-- a deposit that wasn't destroyed; a collection and a class always
abbrev pub IsNotGone : History → Target → Type 0
IsNotGone h (OnDeposit n) = destruction_day h n ≡ None
IsNotGone h (OnCollection name) = Unit {0}
IsNotGone h (OnClass name) = Unit {0}

-- what the hold names is there, and wasn't destroyed; and the office takes one hold more
pub record IsPlaceable (h : History) (hold : Hold) : Type 0 where
  pub there : IsThere h hold.target
  pub not_gone : IsNotGone h hold.target
  pub room : length (holds h) < h.max_holds

-- the hold is there, and wasn't released before
pub record IsReleasable (h : History) (k : ℕ) : Type 0 where
  pub found : Date × Hold
  pub there : hold_numbered h k ≡ Some found
  pub live : release_day h k ≡ None

-- a deposit that may be destroyed on that day: it is kept, no live hold covers it, and its due day has come
pub record IsDisposable (h : History) (day : Date) (n : ℕ) : Type 0 where
  pub found : Date × Deposit
  pub date : Date
  pub there : deposit_numbered h n ≡ Some found
  pub kept : destruction_day h n ≡ None
  pub unheld : live_holds h n found.1 ≡ []
  pub due : due h found.1 ≡ On date
  pub has_come : epoch_day date ≤ℤ epoch_day day

-- a change that the history allows
abbrev pub IsAllowed : History → Change → Type 0
IsAllowed h (Installed policy) = Unit {0}
IsAllowed h (DefinedClass day name years) = Unit {0}
IsAllowed h (DefinedCollection day name) = has_collection h name ≡ false
IsAllowed h (Deposited day deposit) = IsDepositable h day deposit
IsAllowed h (PlacedHold day hold) = IsPlaceable h hold
IsAllowed h (ReleasedHold day k) = IsReleasable h k
IsAllowed h (Destroyed day n) = IsDisposable h day n
