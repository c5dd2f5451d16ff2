-- What is said of a refusal of the office: its status and its body. The statuses' meanings are those of RFC 9110, section 15; which refusal has which, and the bodies, are Depot's own.
use Rattle.std.specs.Prelude.{ℕ, List, [], ◌∷◌, codes}
use Rattle.jiff.specs.Types.{Date}
use Rattle.serde_json.specs.Data.{Data, string}
use Rattle.office_core.specs.Days.{day_text}
use Rattle.office_core.specs.declared.retention.Due.{Due}
use Rattle.office_core.specs.declared.refusal.Subject.{Subject}
use Rattle.office_core.specs.declared.refusal.Subject.TheVariants as subjects
use Rattle.office_core.specs.declared.refusal.Refusal.{Refusal}
use Rattle.office_core.specs.declared.refusal.Refusal.TheVariants.{NoSuch, DeniedByRule, DeniedByDefault, Gone, Taken, ClosedAhead, BadBag, Held, NotDue, Released, Full, Memory, Store, NoFile}
use Rattle.desk_answers.specs.Objects.{object_of, whole}
use Rattle.desk_answers.specs.Rows.{due_text}
use Rattle.desk_answers.specs.declared.status.Status.{Status}
use Rattle.desk_answers.specs.declared.status.Status.TheVariants as statuses

abbrev pub refusal_status : Refusal → Status
refusal_status (NoSuch subject) = statuses.NotFound
refusal_status (DeniedByRule rule) = statuses.Forbidden
refusal_status DeniedByDefault = statuses.Forbidden
refusal_status (Gone day) = statuses.Gone
refusal_status (Taken deposit) = statuses.Conflict
refusal_status ClosedAhead = statuses.Conflict
refusal_status (BadBag fault) = statuses.UnprocessableContent
refusal_status (Held hold) = statuses.Conflict
refusal_status (NotDue due) = statuses.Conflict
refusal_status (Released day) = statuses.Conflict
refusal_status Full = statuses.Conflict
refusal_status Memory = statuses.ServiceUnavailable
refusal_status Store = statuses.ServiceUnavailable
refusal_status NoFile = statuses.NotFound

abbrev pub subject_text : Subject → List ℕ
subject_text subjects.Class = codes "class"
subject_text subjects.Collection = codes "collection"
subject_text subjects.Deposit = codes "deposit"
subject_text subjects.Hold = codes "hold"

-- the refusal's name alone
abbrev pub name_data : List ℕ → Data
name_data name = object_of ((codes "error", string name) ∷ [])

abbrev pub no_such_data : Subject → Data
no_such_data subject = object_of ((codes "error", string (codes "NoSuch")) ∷ (codes "what", string (subject_text subject)) ∷ [])

-- the number of the rule that denies, or `default` where none matches
abbrev pub denied_data : Data → Data
denied_data rule = object_of ((codes "error", string (codes "Denied")) ∷ (codes "rule", rule) ∷ [])

-- the refusal's name, and the day of what is in the way
abbrev pub day_data : List ℕ → Date → Data
day_data name day = object_of ((codes "day", string (day_text day)) ∷ (codes "error", string name) ∷ [])

abbrev pub taken_data : ℕ → Data
taken_data deposit = object_of ((codes "deposit", whole deposit) ∷ (codes "error", string (codes "Taken")) ∷ [])

abbrev pub bad_bag_data : List ℕ → Data
bad_bag_data fault = object_of ((codes "error", string (codes "BadBag")) ∷ (codes "fault", string fault) ∷ [])

abbrev pub held_data : ℕ → Data
held_data hold = object_of ((codes "error", string (codes "Held")) ∷ (codes "hold", whole hold) ∷ [])

abbrev pub not_due_data : Due → Data
not_due_data due = object_of ((codes "due", string (due_text due)) ∷ (codes "error", string (codes "NotDue")) ∷ [])

abbrev pub refusal_data : Refusal → Data
refusal_data (NoSuch subject) = no_such_data subject
refusal_data (DeniedByRule rule) = denied_data (whole rule)
refusal_data DeniedByDefault = denied_data (string (codes "default"))
refusal_data (Gone day) = day_data (codes "Gone") day
refusal_data (Taken deposit) = taken_data deposit
refusal_data ClosedAhead = name_data (codes "ClosedAhead")
refusal_data (BadBag fault) = bad_bag_data fault
refusal_data (Held hold) = held_data hold
refusal_data (NotDue due) = not_due_data due
refusal_data (Released day) = day_data (codes "Released") day
refusal_data Full = name_data (codes "Full")
refusal_data Memory = name_data (codes "Memory")
refusal_data Store = name_data (codes "Store")
refusal_data NoFile = name_data (codes "NoFile")
