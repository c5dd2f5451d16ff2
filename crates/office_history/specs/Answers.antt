-- What the office answers, and which change it accepts.
use Rattle.std.specs.Prelude.{ℕ, ◌+◌, ◌&&◌, Bool, true, List, [], ◌∷◌, length, filter, Option, Some, None, Result, Ok, Err, is_none, bytes_eq, if◌then◌else◌}
use Rattle.std.specs.List.{filter_map}
use Rattle.std.specs.Option.{option_map_or}
use Rattle.jiff.specs.Types.{Date}
use Rattle.bag_text.specs.TransferForm.{File, set_text, content_at}
use Rattle.bag_check.specs.Validity.{Report, payload_files, payload_bytes}
use Rattle.office_core.specs.Descriptions.{Description}
use Rattle.office_core.specs.declared.action.Action.TheVariants as acts
use Rattle.office_core.specs.declared.answer.Answer.{Answer}
use Rattle.office_core.specs.declared.answer.Answer.TheVariants as answers
use Rattle.office_core.specs.declared.answer.AuditReport.{AuditReport}
use Rattle.office_core.specs.declared.answer.AuditReport.TheVariants.{Valid, Invalid}
use Rattle.office_core.specs.declared.answer.DepositRecord.{DepositRecord}
use Rattle.office_core.specs.declared.answer.LiveHold.{LiveHold}
use Rattle.office_core.specs.declared.answer.Scope.{Scope}
use Rattle.office_core.specs.declared.answer.Scope.TheVariants as scopes
use Rattle.office_core.specs.declared.refusal.Subject.TheVariants as subjects
use Rattle.office_core.specs.declared.refusal.Refusal.{Refusal}
use Rattle.office_core.specs.declared.refusal.Refusal.TheVariants.{NoSuch, NoFile}
use Rattle.office_core.specs.declared.request.Request.{Request}
use Rattle.office_core.specs.declared.request.Request.TheVariants.{DefineClass, DefineCollection, Deposit as MakeDeposit, List as ListDeposits, Record, Holds, DownloadBag, DownloadFile, Audit, HoldDeposit, HoldCollection, HoldClass, Release, Dispose, DueList}
use Rattle.office_history.specs.Histories.{History, Change, DefinedClass, DefinedCollection, Deposited, PlacedHold, ReleasedHold, Destroyed, Deposit, Hold, Target, OnDeposit, OnCollection, OnClass, with_changes, has_collection, deposits, deposit_numbered, kept_numbers, due, holds, hold_numbered, live_holds}
use Rattle.office_history.specs.Bags.{bag_of, report_on}
use Rattle.office_history.specs.Refusals.{denial_at, refusal}

-- ---- what is told of a deposit

abbrev pub record_of : History → ℕ → Date × Deposit → DepositRecord
record_of h n found = record {
  number = n;
  description = found.1.description;
  deposited = found.0;
  files = payload_files found.1.bag;
  bytes = payload_bytes found.1.bag;
  due = due h found.1;
}

-- of the deposit of a number, if there is one
abbrev pub of_number : {A : Type 0} → History → (Date × Deposit → Option A) → ℕ → Option A
of_number h tell n = option_map_or tell (deposit_numbered h n) None

-- ---- lists

-- what a list asks for: the deposits of one collection or of all, and of one class or of all
pub record Wanted : Type 0 where
  pub collection : Option (List ℕ)
  pub class : Option (List ℕ)

-- what is asked for by name, or everything
abbrev pub is_selected : Option (List ℕ) → List ℕ → Bool
is_selected None name = true
is_selected (Some only) name = bytes_eq only name

-- a deposit that the caller may list on that day
abbrev pub is_listed : History → Date → List ℕ → Wanted → Deposit → Bool
is_listed h day caller wanted deposit =
    is_selected wanted.collection deposit.description.collection && is_selected wanted.class deposit.description.class && is_none (denial_at h day caller acts.List deposit)

abbrev pub listed_record : History → Date → List ℕ → Wanted → ℕ → Option DepositRecord
listed_record h day caller wanted n =
    of_number h (λ found. if is_listed h day caller wanted found.1 then Some (record_of h n found) else None) n

-- the kept deposits, of the collection and class asked for, that the caller may list on that day, ascending
abbrev pub listed_records : History → Date → List ℕ → Wanted → List DepositRecord
listed_records h day caller wanted = filter_map (listed_record h day caller wanted) (kept_numbers h)

-- the deposits that the caller may destroy on that day, ascending: those whose disposal would be accepted
abbrev pub due_list : History → Date → List ℕ → List ℕ
due_list h day caller = filter (λ n. is_none (refusal h day caller (Dispose n))) (kept_numbers h)

abbrev pub scope_of : Target → Scope
scope_of (OnDeposit n) = scopes.Deposit
scope_of (OnCollection name) = scopes.Collection
scope_of (OnClass name) = scopes.Class

abbrev pub live_hold : ℕ → Date × Hold → LiveHold
live_hold k found = record { number = k; matter = found.1.matter; on = scope_of found.1.target; placed = found.0 }

abbrev pub told_hold : History → ℕ → Option LiveHold
told_hold h k = option_map_or (λ found. Some (live_hold k found)) (hold_numbered h k) None

-- the live holds that cover a deposit, ascending
abbrev pub told_holds : History → ℕ → Deposit → List LiveHold
told_holds h n deposit = filter_map (told_hold h) (live_holds h n deposit)

-- ---- audit

abbrev pub audit_report : Result Report (List ℕ) → AuditReport
audit_report (Ok report) = Valid (record { version = report.version; files = report.files; bytes = report.bytes; manifests = report.manifests })
audit_report (Err fault) = Invalid fault

-- ---- the answer to a request that isn't refused

-- of a deposit that is there
abbrev pub told_of : Option (Date × Deposit) → (Date × Deposit → Answer) → Answer
told_of None tell = answers.Refused (NoSuch subjects.Deposit)
told_of (Some found) tell = tell found

abbrev pub file_answer : Option (List ℕ) → Answer
file_answer None = answers.Refused NoFile
file_answer (Some content) = answers.File content

abbrev pub allowed_answer : History → Date → List ℕ → Request → Answer
allowed_answer h day caller (DefineClass name years) = answers.Class name years
allowed_answer h day caller (DefineCollection name) = answers.Collection name
allowed_answer h day caller (MakeDeposit description bag) = answers.Deposited (length (deposits h) + 1)
allowed_answer h day caller (ListDeposits collection class) = answers.List (listed_records h day caller (record { collection = collection; class = class }))
allowed_answer h day caller (Record n) = told_of (deposit_numbered h n) (λ found. answers.Record (record_of h n found))
allowed_answer h day caller (Holds n) = told_of (deposit_numbered h n) (λ found. answers.Holds (told_holds h n found.1))
allowed_answer h day caller (DownloadBag n) = told_of (deposit_numbered h n) (λ found. answers.Bag (set_text found.1.bag))
allowed_answer h day caller (DownloadFile n path) = told_of (deposit_numbered h n) (λ found. file_answer (content_at found.1.bag path.now))
allowed_answer h day caller (Audit n) = told_of (deposit_numbered h n) (λ found. answers.Audit n (audit_report (report_on found.1.bag)))
allowed_answer h day caller (HoldDeposit n matter) = answers.HoldPlaced (length (holds h) + 1)
allowed_answer h day caller (HoldCollection name matter) = answers.HoldPlaced (length (holds h) + 1)
allowed_answer h day caller (HoldClass name matter) = answers.HoldPlaced (length (holds h) + 1)
allowed_answer h day caller (Release k) = answers.HoldReleased k day
allowed_answer h day caller (Dispose n) = answers.Destroyed n day
allowed_answer h day caller DueList = answers.DueList day (due_list h day caller)

-- ---- the change that it makes, if it makes one

abbrev pub deposit_change : Date → Description → Result (List File) (List ℕ) → List Change
deposit_change day description (Ok bag) = Deposited day (record { description = description; bag = bag }) ∷ []
deposit_change day description (Err fault) = []

abbrev pub allowed_change : History → Date → Request → List Change
allowed_change h day (DefineClass name years) = DefinedClass day name years ∷ []
allowed_change h day (DefineCollection name) = if has_collection h name then [] else DefinedCollection day name ∷ []
allowed_change h day (MakeDeposit description bag) = deposit_change day description (bag_of bag.now)
allowed_change h day (HoldDeposit n matter) = PlacedHold day (record { target = OnDeposit n; matter = matter }) ∷ []
allowed_change h day (HoldCollection name matter) = PlacedHold day (record { target = OnCollection name; matter = matter }) ∷ []
allowed_change h day (HoldClass name matter) = PlacedHold day (record { target = OnClass name; matter = matter }) ∷ []
allowed_change h day (Release k) = ReleasedHold day k ∷ []
allowed_change h day (Dispose n) = Destroyed day n ∷ []
allowed_change h day _ = []

-- ---- with the verdict

abbrev pub answer_unless : Option Refusal → Answer → Answer
answer_unless None answer = answer
answer_unless (Some why) answer = answers.Refused why

-- the answer of the office on that day to that caller
abbrev pub answer : History → Date → List ℕ → Request → Answer
answer h day caller request = answer_unless (refusal h day caller request) (allowed_answer h day caller request)

abbrev pub changes_unless : Option Refusal → List Change → List Change
changes_unless None changes = changes
changes_unless (Some why) changes = []

-- the change that the request makes, if it makes one: a refusal makes none
abbrev pub change : History → Date → List ℕ → Request → List Change
change h day caller request = changes_unless (refusal h day caller request) (allowed_change h day request)

abbrev pub after : History → Date → List ℕ → Request → History
after h day caller request = with_changes h (change h day caller request)

-- A request that asks for what the office keeps, and changes nothing. A due list asks for what may be done on its day.
abbrev pub OnlyReads : Request → Type 0
OnlyReads (ListDeposits collection class) = Unit {0}
OnlyReads (Record n) = Unit {0}
OnlyReads (Holds n) = Unit {0}
OnlyReads (DownloadBag n) = Unit {0}
OnlyReads (DownloadFile n path) = Unit {0}
OnlyReads (Audit n) = Unit {0}
OnlyReads _ = ⊥
