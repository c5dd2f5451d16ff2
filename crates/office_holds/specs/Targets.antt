-- What a hold is on: a deposit, a collection or a class.
use Rattle.std.specs.Prelude.{ℕ, pos, Bool, List, Option, Some, None, is_some, option_map, if◌then◌else◌}
use Rattle.office_core.specs.declared.action.Action.{Action}
use Rattle.office_core.specs.declared.refusal.Refusal.{Refusal}
use Rattle.office_core.specs.declared.refusal.Subject.{Subject}
use Rattle.office_core.specs.declared.refusal.Subject.TheVariants as subjects
use Rattle.office_core.specs.declared.request.Request.{Request}
use Rattle.office_core.specs.declared.request.Request.TheVariants.{HoldDeposit, HoldCollection, HoldClass}
use Rattle.office_rows.specs.Rows.{Tables, class_named, deposit_numbered, has_collection}
use Rattle.office_history.specs.Histories.{Target, OnDeposit, OnCollection, OnClass}
use Rattle.office_history.specs.Pictures.{held_class, held_collection}
use Rattle.office_by_rows.specs.Asking.{Visit, denial_in}

-- what is named, as a refusal says that there is none
abbrev pub subject_of : Target → Subject
subject_of (OnDeposit n) = subjects.Deposit
subject_of (OnCollection name) = subjects.Collection
subject_of (OnClass name) = subjects.Class

-- there is the deposit, the collection or the class that is named
abbrev pub is_there_in : Tables → Target → Bool
is_there_in t (OnDeposit n) = is_some (deposit_numbered (pos n) t.deposits)
is_there_in t (OnCollection name) = has_collection name t
is_there_in t (OnClass name) = is_some (class_named name t.classes)

-- the refusal of the rules, if any, where they are asked by the name alone
abbrev pub denial_of_name : Tables → Visit → Action → Target → Option (Option Refusal)
denial_of_name t visit action target = denial_in t visit action (held_collection target) (held_class target)

-- they aren't asked where there is nothing of that name
abbrev pub name_denial : Tables → Visit → Action → Target → Option (Option (Option Refusal))
name_denial t visit action target = if is_there_in t target then option_map Some (denial_of_name t visit action target) else Some None

-- the request that asks for a hold
abbrev pub hold_request : Target → List ℕ → Request
hold_request (OnDeposit n) matter = HoldDeposit n matter
hold_request (OnCollection name) matter = HoldCollection name matter
hold_request (OnClass name) matter = HoldClass name matter
