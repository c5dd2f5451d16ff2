-- What answers say of one deposit, and of one hold. The form is Depot's own.
use Rattle.std.specs.Prelude.{ℕ, List, [], ◌∷◌, codes}
use Rattle.jiff.specs.Words.{date_text}
use Rattle.serde_json.specs.Data.{Data, string}
use Rattle.office_core.specs.Days.{day_text}
use Rattle.office_core.specs.declared.answer.DepositRecord.{DepositRecord}
use Rattle.office_core.specs.declared.answer.LiveHold.{LiveHold}
use Rattle.office_core.specs.declared.answer.Scope.{Scope}
use Rattle.office_core.specs.declared.answer.Scope.TheVariants.{Deposit, Collection, Class}
use Rattle.office_core.specs.declared.retention.Due.{Due}
use Rattle.office_core.specs.declared.retention.Due.TheVariants.{On, Never}
use Rattle.desk_answers.specs.Objects.{object_of, whole}

-- the date, or that there is none
abbrev pub due_text : Due → List ℕ
due_text (On date) = date_text date
due_text Never = codes "permanent"

-- what an answer says of a deposit
abbrev pub record_data : DepositRecord → Data
record_data row = object_of (
    (codes "accession", string row.description.accession)
    ∷ (codes "bytes", whole row.bytes)
    ∷ (codes "class", string row.description.class)
    ∷ (codes "closed", string (day_text row.description.closed))
    ∷ (codes "collection", string row.description.collection)
    ∷ (codes "deposit", whole row.number)
    ∷ (codes "deposited", string (day_text row.deposited))
    ∷ (codes "due", string (due_text row.due))
    ∷ (codes "files", whole row.files)
    ∷ [])

abbrev pub scope_text : Scope → List ℕ
scope_text Deposit = codes "deposit"
scope_text Collection = codes "collection"
scope_text Class = codes "class"

-- what an answer says of a live hold
abbrev pub live_hold_data : LiveHold → Data
live_hold_data hold = object_of (
    (codes "hold", whole hold.number)
    ∷ (codes "matter", string hold.matter)
    ∷ (codes "on", string (scope_text hold.on))
    ∷ (codes "placed", string (day_text hold.placed))
    ∷ [])
