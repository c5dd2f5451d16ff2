-- Runs of requests, and the histories that they make.
use Rattle.std.specs.Prelude.{◌≡◌, ℕ, pos, ◌≤◌, ◌⊎◌, List, [], ◌∷◌, length}
use Rattle.std.specs.List.{AllByRecursion}
use denote.Ref.{Bor}
use Rattle.jiff.specs.Types.{Date}
use Rattle.office_rows.specs.Rows.{IsLimit}
use Rattle.office_core.specs.Days.{IsDay}
use Rattle.office_core.specs.Policies.{PolicyValue, IsPolicy}
use Rattle.office_core.specs.Requests.{IsRequest}
use Rattle.bag_text.specs.TransferForm.{File, IsBag}
use Rattle.bag_text.specs.declared.declaration.Version.{Version}
use Rattle.bag_check.specs.Validity.{Valid}
use Rattle.office_core.specs.declared.answer.Answer.{Answer}
use Rattle.office_core.specs.declared.answer.Answer.TheVariants.{Refused}
use Rattle.office_core.specs.declared.refusal.Refusal.TheVariants.{Memory, Store}
use Rattle.office_core.specs.declared.request.Request.{Request}
use Rattle.office_history.specs.Histories.{History, Change, Installed, with_changes, deposits, holds}
use Rattle.office_history.specs.Answers.{answer, after}

-- a day, a caller's name, and what the caller asks
abbrev pub Item : Type 0
Item = Date × Bor (List ℕ) × Request

-- an item in range: its day is one of the office, and so is what its request asks for; any text is a caller's name
abbrev pub IsItem : Item → Type 0
IsItem item = IsDay item.0 × IsRequest item.2

abbrev pub AreItems : List Item → Type 0
AreItems items = AllByRecursion IsItem items

-- E11 or E12: memory ran out, or the store failed
abbrev pub IsFailure : Answer → Type 0
IsFailure (Refused Memory) = Unit {0}
IsFailure (Refused Store) = Unit {0}
IsFailure _ = ⊥

-- One item: a failure of this kind, after which the history is as it was, or the office's answer and
-- the history after it.
abbrev pub StepFailing : (Answer → Type 0) → History → Item → Answer → History → Type 0
StepFailing Fails h item given next =
    (Fails given × (next ≡ h))
    ⊎ ((given ≡ answer h item.0 item.1.now item.2) × (next ≡ after h item.0 item.1.now item.2))

-- item by item
abbrev pub RunFailing : (Answer → Type 0) → History → List Item → List Answer → History → Type 0
RunFailing Fails h [] [] next = next ≡ h
RunFailing Fails h (item ∷ items) (given ∷ more) next =
    (mid : History) × StepFailing Fails h item given mid × RunFailing Fails mid items more next
RunFailing Fails h _ _ next = ⊥

-- a step, and a run, of the office over its tables
abbrev pub Step : History → Item → Answer → History → Type 0
Step = StepFailing IsFailure

abbrev pub Run : History → List Item → List Answer → History → Type 0
Run = RunFailing IsFailure

-- One history is later than another: it is the other, grown by some changes.
abbrev pub IsLater : History → History → Type 0
IsLater h next = (more : List Change) × (next ≡ with_changes h more)

-- the history of a new office
abbrev pub new_history : ℕ → ℕ → History
new_history max_deposits max_holds =
    record { max_deposits = max_deposits; max_holds = max_holds; changes = [] }

-- A legal history is made from that of a new office by installs of policies and by requests, all in range.
pub data IsLegal : History → Type 0 where
  new : (max_deposits max_holds : ℕ) → IsLimit (pos max_deposits) → IsLimit (pos max_holds) → IsLegal (new_history max_deposits max_holds)
  install : (h : History) (policy : PolicyValue) → IsPolicy policy → IsLegal h → IsLegal (with_changes h (Installed policy ∷ []))
  step : (h : History) (day : Date) (caller : List ℕ) (request : Request)
      → IsDay day → IsRequest request → IsLegal h → IsLegal (after h day caller request)

-- ---- what legal histories have

-- a bag that the office may keep: it has a transfer form, and is valid
pub record IsSound (files : List File) : Type 0 where
  pub bag : IsBag files
  pub version : Version
  pub valid : Valid files version

-- no more deposits and holds were accepted than the limits say, which are in their range
pub record IsWithin (h : History) : Type 0 where
  pub deposits_in : length (deposits h) ≤ h.max_deposits
  pub holds_in : length (holds h) ≤ h.max_holds
  pub deposits_limit : IsLimit (pos h.max_deposits)
  pub holds_limit : IsLimit (pos h.max_holds)

-- the history as it was when these were its changes
abbrev pub as_of : History → List Change → History
as_of h changes = record h { changes = changes }
