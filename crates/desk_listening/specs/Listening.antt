-- What comes of connections, one after the other. `old` is the office before and `new` the office after. The rules are Depot's own.
use Rattle.std.specs.Prelude.{◌≡◌, ℕ, List, [], ◌∷◌, Bool, true, false, Option, None, Some, Result, Ok, Err, ⊤}
use Rattle.jiff.specs.Types.{Date}
use Rattle.sqlite.specs.Held.{Held, state}
use Rattle.sqlite.specs.State.{HasCleanDisk}
use Rattle.sqlite.specs.Store.{Ghosts}
use Rattle.office_core.specs.declared.answer.Answer.{Answer}
use Rattle.office_history.specs.Runs.{Item}
use Rattle.office_engine.specs.Storing.{Runs}
use Rattle.desk_routes.specs.declared.refusal.DeskRefusal.{DeskRefusal}
use Rattle.desk_hearing.specs.Asking.{HeardValue}
use Rattle.desk_hearing.specs.Hearing.{Hears}
use Rattle.desk_log.specs.Notes.{note_of}
use Rattle.desk_log.specs.declared.note.OfficeNote.{OfficeNote}
use Rattle.desk_serving.specs.Serving.{IsHeardServed}
use Rattle.desk_serving.specs.declared.serving.DeskFault.{DeskFault}
use Rattle.desk_serving.specs.declared.serving.DeskFault.TheVariants as faults

-- what came of a connection
pub data Connection : Type 0 where
  -- these bytes were heard, the office served them as this item with this answer, and all of its text was written, or not
  served : List ℕ → Item → Answer → Bool → Connection
  -- these bytes were heard, and the text of the desk's refusal was written
  refused : List ℕ → DeskRefusal → Connection
  -- nothing was served, and no whole answer written
  lost : Connection

-- what it did to the office: it was served what the bytes ask, or is as it was
abbrev pub IsAfter : {S : Type 0} → Ghosts S → Date → Connection → Held S → Held S → Type 0
IsAfter g day (served bytes item answer whole) old new =
    (heard : HeardValue) × Hears bytes (Ok heard) × (it : IsHeardServed day heard (state g old) (state g new) answer) × (it.item ≡ item)
IsAfter g day (refused bytes refusal) old new = Hears bytes (Err refusal) × (new ≡ old)
IsAfter g day lost old new = new ≡ old

-- these bytes were heard
abbrev pub IsOf : List ℕ → Connection → Type 0
IsOf input (served bytes item answer whole) = bytes ≡ input
IsOf input (refused bytes refusal) = bytes ≡ input
IsOf input lost = ⊤

-- one connection after the other
abbrev pub IsAfterAll : {S : Type 0} → Ghosts S → Date → List Connection → Held S → Held S → Type 0
IsAfterAll g day [] old new = new ≡ old
IsAfterAll {S} g day (connection ∷ more) old new = (mid : Held S) × IsAfter g day connection old mid × IsAfterAll g day more mid new

-- all of an answer was written
abbrev pub is_answered : Connection → Bool
is_answered (served bytes item answer whole) = whole
is_answered (refused bytes refusal) = true
is_answered lost = false

-- the office served what was heard
abbrev pub is_served : Connection → Bool
is_served (served bytes item answer whole) = true
is_served (refused bytes refusal) = false
is_served lost = false

-- what a call reports of its connection: that all of an answer was written, or else whether the office served what was heard
abbrev pub done_of : DeskFault → Bool
done_of faults.Read = false
done_of (faults.Write done) = done
done_of (faults.Memory done) = done

abbrev pub ReportsConnection : {T : Type 0} → Result T DeskFault → Connection → Type 0
ReportsConnection (Ok _) connection = is_answered connection ≡ true
ReportsConnection (Err fault) connection = (is_answered connection ≡ false) × (is_served connection ≡ done_of fault)

-- what is noted of the office's answer, where it served what was heard
abbrev pub noted : Connection → Option OfficeNote
noted (served bytes item answer whole) = Some (note_of item.2 answer)
noted (refused bytes refusal) = None
noted lost = None

-- what the office served, in turn
abbrev pub items_of : List Connection → List Item
items_of [] = []
items_of (served bytes item answer whole ∷ more) = item ∷ items_of more
items_of (refused bytes refusal ∷ more) = items_of more
items_of (lost ∷ more) = items_of more

-- and its answers
abbrev pub answers_of : List Connection → List Answer
answers_of [] = []
answers_of (served bytes item answer whole ∷ more) = answer ∷ answers_of more
answers_of (refused bytes refusal ∷ more) = answers_of more
answers_of (lost ∷ more) = answers_of more

-- whichever legal history the store held, the answers of the office are those of a run from it, and the store holds the history that it leads to
abbrev pub IsRun : {S : Type 0} → Ghosts S → List Connection → Held S → Held S → Type 0
IsRun g connections old new = HasCleanDisk (state g new) → Runs (state g old) (state g new) (items_of connections) (answers_of connections)
