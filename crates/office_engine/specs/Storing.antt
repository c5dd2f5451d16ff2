-- What an office keeps over its connection, what a request does to it, and what a crash may leave. `old` is the store before a call
-- and `new` the store after it.
use Rattle.std.specs.Prelude.{◌⊎◌, ◌≡◌, ◌≢◌, List, [], ◌∷◌, ℕ, Bool, true, false, Some, Result, OnOk, IsTrue, All, drop}
use Rattle.jiff.specs.Types.{Date}
use Rattle.sqlite.specs.Tree.{Trees}
use Rattle.sqlite.specs.Effect.{Database}
use Rattle.sqlite.specs.Store.{Ghosts}
use Rattle.sqlite.specs.State.{State, HasCleanDisk, Survives}
use Rattle.sqlite.specs.Held.{Held, state}
use Rattle.office_core.specs.Policies.{PolicyValue}
use Rattle.office_core.specs.declared.answer.Answer.{Answer}
use Rattle.office_core.specs.declared.answer.Answer.TheVariants as answers
use Rattle.office_core.specs.declared.refusal.Refusal.TheVariants as refusals
use Rattle.office_contents.specs.Tables.{IsOffice, contents_of, tables_of}
pub use Rattle.office_tables.specs.Opening.{HasSameTables}
use Rattle.office_history.specs.Histories.{History, Installed, with_changes}
use Rattle.office_history.specs.Answers.{change, after, due_list}
use Rattle.office_history.specs.Runs.{IsLegal, IsFailure, Item, Step, Run}
use Rattle.office_history.specs.Stocks.{Stock, stock}
use Rattle.office_contents.specs.declared.fault.TableFault.{TableFault}
use Rattle.office_contents.specs.declared.fault.TableFault.TheVariants as faults
use Rattle.office_contents.specs.declared.version.TableVersion.{TableVersion}
use Rattle.office_contents.specs.Versions.{Newest}
use Rattle.office_by_rows.specs.Answers as by_rows
use Rattle.office_by_rows.specs.Stock.{stock_by}
use Rattle.office_access.specs.Asking.{visit_on}
use Rattle.office_access.specs.Pictures.{PicturesAt}
use Rattle.office_access.specs.Contents.{IsOfficeWith, Rows, rows_of}
use Rattle.office_engine.specs.ByRows.{RowsMake, RowsRun, RowsStep, RowsTell, rows_installed}

-- ---- a call

-- where the disk is honest after the call, this is so of the store before it and the store after it
abbrev pub IfClean : {S : Type 0} → Ghosts S → Held S → Held S → (State → State → Type 0) → Type 0
IfClean g old new is_so = HasCleanDisk (state g new) → is_so (state g old) (state g new)

-- ---- what is kept, and what is left

-- while the store is open its tables, which are of that version, picture the history, and all of it is committed
abbrev pub IsStoredAt : TableVersion → History → State → Type 0
IsStoredAt version h s = IsTrue s.is_open → PicturesAt version h s.now × (s.committed ≡ s.now)

-- the same of tables of this version
abbrev pub IsStoredBy : History → State → Type 0
IsStoredBy = IsStoredAt Newest

-- what a crash leaves pictures the history, by tables of that version
abbrev pub IsLeftAt : TableVersion → History → Trees → Type 0
IsLeftAt version h left = (found : Database) × PicturesAt version h found × (left ≡ found.trees)

abbrev pub IsLeftOf : History → Trees → Type 0
IsLeftOf = IsLeftAt Newest

-- what a crash leaves pictures one of the two
abbrev pub IsLeftOfEither : History → History → Trees → Type 0
IsLeftOfEither g h left = IsLeftOf g left ⊎ IsLeftOf h left

-- the store was open, and whichever legal history was kept, a crash may leave the one that this makes of it
abbrev pub CommitsTo : State → (History → History) → Trees → Type 0
CommitsTo old next left = IsTrue old.is_open × ((h : History) → IsLegal h → IsStoredBy h old → IsLeftOf (next h) left)

-- whichever legal history was kept, a crash leaves it, or the one that this makes of it
abbrev pub LeavesEither : State → State → (History → History) → Type 0
LeavesEither old new next =
    (h : History) → IsLegal h → IsTrue old.is_open → IsStoredBy h old → (left : Trees) → new.may_leave left → IsLeftOfEither h (next h) left

-- a crash leaves the history that is kept, and nothing else
abbrev pub LeavesStored : State → Type 0
LeavesStored s = (h : History) → IsTrue s.is_open → IsStoredBy h s → (left : Trees) → s.may_leave left → IsLeftOf h left

-- ---- one request

-- the history after a request
abbrev pub after_item : Item → History → History
after_item item h = after h item.0 item.1.now item.2

-- the history that a step or a run leads to: it is legal, and kept
pub record IsLegalAndStored (next : History) (new : State) : Type 0 where
  pub legal : IsLegal next
  pub kept : IsStoredBy next new

-- whichever legal history was kept, this is a step from it, and the history that it leads to is kept
abbrev pub TakesStep : State → State → Item → Answer → Type 0
TakesStep old new item given = (h : History) → IsLegal h → IsStoredBy h old → (next : History) × Step h item given next × IsLegalAndStored next new

-- after an answer that accepts a change, a crash leaves the tables of the history with the change, and nothing else
abbrev pub Lasts : State → State → Item → Answer → Type 0
Lasts old new item given =
    (h : History) → IsLegal h → IsStoredBy h old → (IsFailure given → ⊥) → change h item.0 item.1.now item.2 ≢ []
    → (left : Trees) → new.may_leave left → IsLeftOf (after_item item h) left

-- the answers that tell of a change
abbrev pub is_accepted : Answer → Bool
is_accepted (answers.Class name years) = true
is_accepted (answers.Collection name) = true
is_accepted (answers.Deposited n) = true
is_accepted (answers.HoldPlaced k) = true
is_accepted (answers.HoldReleased k day) = true
is_accepted (answers.Destroyed n day) = true
is_accepted _ = false

-- the answer where the tables fail: E11 where memory ran out, and E12 for each other fault
abbrev pub failure_answer : TableFault → Answer
failure_answer faults.Memory = answers.Refused refusals.Memory
failure_answer fault = answers.Refused refusals.Store

-- what a crash may leave, beside what it could leave before, are these trees
abbrev pub LeavesAlso : State → State → Trees → Type 0
LeavesAlso old new made = (left : Trees) → new.may_leave left → old.may_leave left ⊎ (left ≡ made)

-- what a crash may leave, beside what it could leave before, are the trees that the request made: those of the store after it where the
-- answer tells of a change, and none where it tells of none and is no failure
pub record LeavesMade (old new : State) (given : Answer) : Type 0 where
  pub made : Trees
  pub also : LeavesAlso old new made
  pub accepted : IsTrue (is_accepted given) → made ≡ new.now.trees
  pub none : is_accepted given ≡ false → (IsFailure given → ⊥) → (left : Trees) → new.may_leave left → old.may_leave left

-- the same of an install: the trees of the store after an Ok
abbrev pub LeavesInstalled : {T E : Type 0} → State → State → Result T E → Type 0
LeavesInstalled old new result = (made : Trees) × LeavesAlso old new made × OnOk result (made ≡ new.now.trees)

-- whatever rows the tables of an office held, an answer that is no failure is the one that they told: an audit is the report on the
-- files that were there, no answer rests on a row that tells nothing, and no bytes are served but under their SHA-256
abbrev pub IsToldByRows : State → Item → Answer → Type 0
IsToldByRows old item given = (IsFailure given → ⊥) → IsOffice old.now → RowsTell (rows_of old.now) (visit_on item.0 item.1.now) item.2 given

-- once a fault has shut the store, the answer is E11 or E12, and the store stays shut
abbrev pub StaysShut : State → State → Answer → Type 0
StaysShut old new given = old.is_open ≡ false → IsFailure given × (new.is_open ≡ false)

-- ---- one request, whatever rows an office has: those of its tables, and the contents beside them

-- while the store is open its tables are an office's with these rows, and all of it is committed
abbrev pub HasRows : Rows → State → Type 0
HasRows r s = IsTrue s.is_open → IsOfficeWith r s.now × (s.committed ≡ s.now)

-- whichever rows an office had, this is a step from them, and it has those that it leads to: after a refusal or a failure, those that it had
abbrev pub TakesRowsStep : State → State → Item → Answer → Type 0
TakesRowsStep old new item given = (r : Rows) → HasRows r old → (next : Rows) × RowsStep r item given next × HasRows next new

-- what a crash leaves is an office with these rows
abbrev pub IsLeftWith : Rows → Trees → Type 0
IsLeftWith r left = (found : Database) × IsOfficeWith r found × (left ≡ found.trees)

-- a crash leaves the rows that an office has, and nothing else
abbrev pub LeavesStoredRows : State → Type 0
LeavesStoredRows s = (r : Rows) → IsTrue s.is_open → HasRows r s → (left : Trees) → s.may_leave left → IsLeftWith r left

-- it has the rows that the request makes of these
abbrev pub IsLeftMade : Rows → Item → Trees → Type 0
IsLeftMade r item left = (given : Answer) × (next : Rows) × RowsMake r item given next × IsLeftWith next left

-- the store was open, and whichever rows an office had, a crash may leave those that the request makes of them
abbrev pub CommitsRows : State → Item → Trees → Type 0
CommitsRows old item left = IsTrue old.is_open × ((r : Rows) → HasRows r old → IsLeftMade r item left)

-- whichever rows an office had, a crash leaves these, or those that the request makes of them
abbrev pub LeavesRows : State → State → Item → Type 0
LeavesRows old new item = (r : Rows) → IsTrue old.is_open → HasRows r old → (left : Trees) → new.may_leave left → IsLeftWith r left ⊎ IsLeftMade r item left

-- after an answer that tells of a change, the rows that it made, and nothing else
abbrev pub RowsLast : State → State → Item → Answer → Type 0
RowsLast old new item given =
    (r : Rows) → HasRows r old → IsTrue (is_accepted given) → (next : Rows) × RowsMake r item given next × ((left : Trees) → new.may_leave left → IsLeftWith next left)

-- ---- requests in turn

-- what one request does and is answered, as each of a run is
pub record IsTurn (old new : State) (item : Item) (given : Answer) : Type 0 where
  pub served : TakesStep old new item given
  pub kept : is_accepted given ≡ false → HasSameTables old new
  pub rows : IsToldByRows old item given
  pub shut : StaysShut old new given
  pub survives : Survives old new (CommitsTo old (after_item item))
  pub durable : Lasts old new item given
  pub leaves : LeavesEither old new (after_item item)
  pub made : LeavesMade old new given
  pub survives_rows : Survives old new (CommitsRows old item)
  pub takes_rows_step : TakesRowsStep old new item given
  pub leaves_rows : LeavesRows old new item
  pub durable_rows : RowsLast old new item given

-- the requests were served one after the other, each over the store that the one before it left
abbrev pub InTurn : {S : Type 0} → Ghosts S → Held S → Held S → List Item → List Answer → Type 0
InTurn g old new [] [] = new ≡ old
InTurn g old new (item ∷ items) (given ∷ more) = (mid : Held _) × IsTurn (state g old) (state g mid) item given × InTurn g mid new items more
InTurn g old new _ _ = ⊥

-- once a fault has shut the store, each answer is E11 or E12, and the store stays shut
abbrev pub AllStayShut : State → State → List Answer → Type 0
AllStayShut old new given = old.is_open ≡ false → All IsFailure given × (new.is_open ≡ false)

-- whichever legal history was kept, the answers are those of a run from it, and the history that it leads to is kept
abbrev pub Runs : State → State → List Item → List Answer → Type 0
Runs old new items given = (h : History) → IsLegal h → IsStoredBy h old → (next : History) × Run h items given next × IsLegalAndStored next new

-- whichever rows an office had, the answers are those of a run from them, and it has those that it leads to
abbrev pub RunsRows : State → State → List Item → List Answer → Type 0
RunsRows old new items given = (r : Rows) → HasRows r old → (last : Rows) × RowsRun r items given last × HasRows last new

-- ---- what is left of a run

-- this has what one item more makes of what the answers told: an item that was answered with a failure, as was each after it
pub record AddsFailed {X : Type 0} (Adds : X → Item → X → Type 0) (told : X) (items : List Item) (given : List Answer) (found : X) : Type 0 where
  pub count : ℕ
  pub item : Item
  pub rest : List Item
  pub is_item : drop count items ≡ item ∷ rest
  pub failed : All IsFailure (drop count given)
  pub added : Adds told item found

-- after a run that was answered so, a crash leaves this: what the answers tell, or that with what an item that failed makes of it
pub record IsFoundBy {X : Type 0} (Ran : X → List Item → List Answer → X → Type 0) (Adds : X → Item → X → Type 0) (first : X) (items : List Item) (given : List Answer) (found : X) : Type 0 where
  pub told : X
  pub run : Ran first items given told
  pub is_found : (found ≡ told) ⊎ AddsFailed Adds told items given found

-- of a history: the one that the answers tell, or that one with the change of an item that failed
abbrev pub IsFoundAfter : History → List Item → List Answer → History → Type 0
IsFoundAfter = IsFoundBy Run (λ told item found. found ≡ after_item item told)

-- what a crash leaves of such a run
abbrev pub IsLeftOfRun : History → List Item → List Answer → Trees → Type 0
IsLeftOfRun h items given left = (found : History) × IsFoundAfter h items given found × IsLeftOf found left

-- and what is kept of it, once it is found again
abbrev pub IsStoredOfRun : History → List Item → List Answer → State → Type 0
IsStoredOfRun h items given s = (found : History) × IsFoundAfter h items given found × IsStoredBy found s

-- the store was open, and whichever legal history was kept, a crash may leave what such a run makes of it
abbrev pub CommitsRun : State → List Item → List Answer → Trees → Type 0
CommitsRun old items given left = IsTrue old.is_open × ((h : History) → IsLegal h → IsStoredBy h old → IsLeftOfRun h items given left)

-- whichever legal history was kept, a crash leaves what such a run makes of it, and nothing else
abbrev pub LeavesRun : State → State → List Item → List Answer → Type 0
LeavesRun old new items given =
    (h : History) → IsLegal h → IsTrue old.is_open → IsStoredBy h old → (left : Trees) → new.may_leave left → IsLeftOfRun h items given left

-- of rows: those that the answers tell, or what an item that failed makes of them
abbrev pub AreRowsAfter : Rows → List Item → List Answer → Rows → Type 0
AreRowsAfter = IsFoundBy RowsRun (λ told item found. (given : Answer) × RowsMake told item given found)

abbrev pub AreRowsLeft : Rows → List Item → List Answer → Trees → Type 0
AreRowsLeft r items given left = (found : Rows) × AreRowsAfter r items given found × IsLeftWith found left

-- the same of whichever rows an office had
abbrev pub CommitsRunRows : State → List Item → List Answer → Trees → Type 0
CommitsRunRows old items given left = IsTrue old.is_open × ((r : Rows) → HasRows r old → AreRowsLeft r items given left)

abbrev pub LeavesRunRows : State → State → List Item → List Answer → Type 0
LeavesRunRows old new items given = (r : Rows) → IsTrue old.is_open → HasRows r old → (left : Trees) → new.may_leave left → AreRowsLeft r items given left

-- ---- an install

abbrev pub after_policy : PolicyValue → History → History
after_policy policy h = with_changes h (Installed policy ∷ [])

-- whichever legal history was kept, it is kept with the policy
abbrev pub Installs : State → State → PolicyValue → Type 0
Installs old new policy = (h : History) → IsLegal h → IsStoredBy h old → IsLegalAndStored (after_policy policy h) new

-- and a crash leaves that, and nothing else
abbrev pub InstallLasts : State → State → PolicyValue → Type 0
InstallLasts old new policy = (h : History) → IsLegal h → IsStoredBy h old → (left : Trees) → new.may_leave left → IsLeftOf (after_policy policy h) left

-- whichever rows an office had, it has these with the policy, or a crash leaves one of both; after an Ok, nothing else
abbrev pub InstallsRows : State → State → PolicyValue → Type 0
InstallsRows old new policy = (r : Rows) → HasRows r old → HasRows (rows_installed policy r) new

abbrev pub CommitsInstalled : State → PolicyValue → Trees → Type 0
CommitsInstalled old policy left = IsTrue old.is_open × ((r : Rows) → HasRows r old → IsLeftWith (rows_installed policy r) left)

abbrev pub LeavesInstalledRows : State → State → PolicyValue → Type 0
LeavesInstalledRows old new policy =
    (r : Rows) → IsTrue old.is_open → HasRows r old → (left : Trees) → new.may_leave left → IsLeftWith r left ⊎ IsLeftWith (rows_installed policy r) left

abbrev pub InstalledRowsLast : State → State → PolicyValue → Type 0
InstalledRowsLast old new policy = (r : Rows) → HasRows r old → (left : Trees) → new.may_leave left → IsLeftWith (rows_installed policy r) left

-- ---- the due list

-- whichever legal history was kept, it still is, and these are the deposits that the caller may destroy on that day
abbrev pub ListsDue : State → State → Date → List ℕ → List ℕ → Type 0
ListsDue old new day caller numbers = (h : History) → IsLegal h → IsStoredBy h old → IsLegalAndStored h new × (numbers ≡ due_list h day caller)

-- whatever rows the tables of an office held, these are the numbers that they told
abbrev pub AreToldDue : State → Date → List ℕ → List ℕ → Type 0
AreToldDue old day caller numbers = IsOffice old.now → by_rows.due_list (tables_of old.now) (visit_on day caller) ≡ Some numbers

-- ---- the stock

-- whichever legal history was kept, it still is, and this is its stock
abbrev pub CountsStock : State → State → Stock → Type 0
CountsStock old new found = (h : History) → IsLegal h → IsStoredBy h old → IsLegalAndStored h new × (found ≡ stock h)

-- whatever contents the tables of an office held, it is the count of them
abbrev pub IsToldStock : State → Stock → Type 0
IsToldStock old found = IsOffice old.now → stock_by (contents_of old.now) ≡ Some found
