-- A replay as a run of the office: what is heard of each record is an item of the run, and what the desk refuses is no item. The rule is Depot's own.
use Rattle.std.specs.Prelude.{ℕ, List, [], ◌∷◌, Ok, Err}
use Rattle.sqlite.specs.Held.{Held, state}
use Rattle.sqlite.specs.State.{HasCleanDisk}
use Rattle.sqlite.specs.Store.{Ghosts}
use Rattle.office_core.specs.declared.answer.Answer.{Answer}
use Rattle.office_history.specs.Histories.{History}
use Rattle.office_history.specs.Runs.{IsLegal, Item, Run}
use Rattle.office_engine.specs.Storing.{IsStoredBy, IsLegalAndStored}
use Rattle.desk_routes.specs.declared.refusal.DeskRefusal.{DeskRefusal}
use Rattle.desk_hearing.specs.Asking.{HeardValue}
use Rattle.desk_hearing.specs.Hearing.{Hears}
use Rattle.desk_answers.specs.Answers.{answer_text, refusal_text}
use Rattle.desk_serving.specs.Serving.{DeskRequest, IsItemOf}

-- the run asks what is heard of the records, in their order; each text is that of its answer, or of the desk's refusal
pub data IsRunOf : List DeskRequest → List (List ℕ) → List Item → List Answer → Type 0 where
  none : IsRunOf [] [] [] []
  served : (item : DeskRequest) (heard : HeardValue) (asked : Item) (answer : Answer) (items : List DeskRequest) (texts : List (List ℕ)) (run : List Item) (answers : List Answer)
      → Hears item.bytes (Ok heard) → IsItemOf item.day heard asked → IsRunOf items texts run answers
      → IsRunOf (item ∷ items) (answer_text answer ∷ texts) (asked ∷ run) (answer ∷ answers)
  refused : (item : DeskRequest) (refusal : DeskRefusal) (items : List DeskRequest) (texts : List (List ℕ)) (run : List Item) (answers : List Answer)
      → Hears item.bytes (Err refusal) → IsRunOf items texts run answers → IsRunOf (item ∷ items) (refusal_text refusal ∷ texts) run answers

-- whichever legal history the store held, the texts are those of a run from it that asks what is heard of the records, and the store holds
-- the history that it leads to
abbrev pub RunsEach : {S : Type 0} → Ghosts S → Held S → Held S → List DeskRequest → List (List ℕ) → Type 0
RunsEach g old new items texts =
    HasCleanDisk (state g new) → (h : History) → IsLegal h → IsStoredBy h (state g old)
    → (run : List Item) × (answers : List Answer) × (next : History) × IsRunOf items texts run answers × Run h run answers next × IsLegalAndStored next (state g new)
