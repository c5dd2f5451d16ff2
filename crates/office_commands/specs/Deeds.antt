-- What is done with an office, one deed after the other: over the store that keeps it, and to its history. `old` is the office before
-- and `new` the office after; `h` is the history before and `next` the history after.
use Rattle.std.specs.Prelude.{◌≡◌, ℕ, List, [], ◌∷◌, Bool, Ok, Err}
use Rattle.jiff.specs.Types.{Date}
use Rattle.sqlite.specs.Held.{Held, state}
use Rattle.sqlite.specs.State.{HasCleanDisk, Survives}
use Rattle.sqlite.specs.Store.{Ghosts}
use Rattle.office_core.specs.Policies.{PolicyValue}
use Rattle.office_core.specs.declared.answer.Answer.{Answer}
use Rattle.office_history.specs.Histories.{History}
use Rattle.office_history.specs.Runs.{Item, Step}
use Rattle.office_engine.specs.Storing.{CommitsTo, Installs, HasSameTables, after_policy}
use Rattle.desk_routes.specs.declared.refusal.DeskRefusal.{DeskRefusal}
use Rattle.desk_hearing.specs.Asking.{HeardValue}
use Rattle.desk_hearing.specs.Hearing.{Hears}
use Rattle.desk_answers.specs.Answers.{answer_text, refusal_text}
use Rattle.desk_listening.specs.Listening.{Connection, lost, refused, served}
use Rattle.desk_serving.specs.Serving.{DeskRequest, IsAnswered, IsItemOf}

pub data Deed : Type 0 where
  -- the policy is installed
  installs : PolicyValue → Deed
  -- or that fails
  fails : PolicyValue → Deed
  -- the bytes of a request are answered on that day with this text
  answers : Date → List ℕ → List ℕ → Deed

-- ---- over a store

-- On an honest disk the store holds whichever legal history it held, with the policy. Where the install fails, the tables are as they were. What a crash
-- may leave is the office before or after it.
abbrev pub IsDone : {S : Type 0} → Ghosts S → Deed → Held S → Held S → Type 0
IsDone g (installs policy) old new =
    Survives (state g old) (state g new) (CommitsTo (state g old) (after_policy policy))
    × (HasCleanDisk (state g new) → Installs (state g old) (state g new) policy)
IsDone g (fails policy) old new =
    Survives (state g old) (state g new) (CommitsTo (state g old) (after_policy policy))
    × (HasCleanDisk (state g new) → HasSameTables (state g old) (state g new))
IsDone g (answers day bytes text) old new = (done : Bool) × IsAnswered g (record { day = day; bytes = bytes }) (record { text = text; done = done }) old new

abbrev pub AreDone : {S : Type 0} → Ghosts S → List Deed → Held S → Held S → Type 0
AreDone g [] old new = new ≡ old
AreDone {S} g (deed ∷ deeds) old new = (mid : Held S) × IsDone g deed old mid × AreDone g deeds mid new

-- ---- to a history

-- The bytes of a request are answered with this text on that day: by the office, whose history goes on by what they ask, or by the
-- desk, which refuses them.
pub data IsAnsweredFrom (h : History) (day : Date) (bytes text : List ℕ) (next : History) : Type 0 where
  by_office : (heard : HeardValue) (item : Item) (answer : Answer) → Hears bytes (Ok heard) → IsItemOf day heard item → Step h item answer next → text ≡ answer_text answer
      → IsAnsweredFrom h day bytes text next
  by_desk : (refusal : DeskRefusal) → Hears bytes (Err refusal) → next ≡ h → text ≡ refusal_text refusal → IsAnsweredFrom h day bytes text next

abbrev pub Leads : Deed → History → History → Type 0
Leads (installs policy) h next = next ≡ after_policy policy h
Leads (fails policy) h next = next ≡ h
Leads (answers day bytes text) h next = IsAnsweredFrom h day bytes text next

abbrev pub LeadOn : List Deed → History → History → Type 0
LeadOn [] h next = next ≡ h
LeadOn (deed ∷ deeds) h next = (mid : History) × Leads deed h mid × LeadOn deeds mid next

-- ---- the deeds of records and of connections

-- each record is answered with its text
abbrev pub deeds_of_records : List DeskRequest → List (List ℕ) → List Deed
deeds_of_records (item ∷ items) (text ∷ texts) = answers item.day item.bytes text ∷ deeds_of_records items texts
deeds_of_records _ _ = []

-- what was heard over each connection, as a record of that day; one that was lost has none
abbrev pub records_of_connections : Date → List Connection → List DeskRequest
records_of_connections day [] = []
records_of_connections day (served bytes item answer whole ∷ more) = record { day = day; bytes = bytes } ∷ records_of_connections day more
records_of_connections day (refused bytes refusal ∷ more) = record { day = day; bytes = bytes } ∷ records_of_connections day more
records_of_connections day (lost ∷ more) = records_of_connections day more

-- with the text that answers it
abbrev pub texts_of_connections : List Connection → List (List ℕ)
texts_of_connections [] = []
texts_of_connections (served bytes item answer whole ∷ more) = answer_text answer ∷ texts_of_connections more
texts_of_connections (refused bytes refusal ∷ more) = refusal_text refusal ∷ texts_of_connections more
texts_of_connections (lost ∷ more) = texts_of_connections more

-- what was heard over each connection is answered; one that was lost is no deed
abbrev pub deeds_of_connections : Date → List Connection → List Deed
deeds_of_connections day connections = deeds_of_records (records_of_connections day connections) (texts_of_connections connections)
