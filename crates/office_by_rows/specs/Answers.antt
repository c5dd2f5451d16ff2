-- What is answered where nothing is refused, by the rows of an office.
use Rattle.std.specs.Prelude.{ℕ, ◌*◌, ℤ, pos, ◌&&◌, Bool, false, List, Option, Some, None, is_none, map, option_map, if◌then◌else◌}
use Rattle.std.specs.Ordering.{nat_cmp}
use Rattle.std.specs.Cmp.Lexicographic.{slice_cmp}
use Rattle.std.specs.declared.cmp.Ordering.{Ordering}
use Rattle.sqlite_keyed.specs.Lists.{sort_by}
use Rattle.jiff.specs.Types.{Date}
use Rattle.jiff.specs.Words.{epoch_day}
use Rattle.bag_text.specs.BagList.{list_fault}
use Rattle.bag_text.specs.FaultTexts.{set_fault_text}
use Rattle.bag_text.specs.Paths.{is_good}
use Rattle.bag_text.specs.TransferForm.{File, max_content, max_files, set_text}
use Rattle.bag_text.specs.declared.set_fault.SetFault.{SetFault}
use Rattle.office_core.specs.FirstOf.{◌>>=◌}
use Rattle.office_core.specs.Names.{is_accession, is_name}
use Rattle.office_core.specs.declared.action.Action.{Action}
use Rattle.office_core.specs.declared.action.Action.TheVariants as acts
use Rattle.office_core.specs.declared.answer.Answer.{Answer}
use Rattle.office_core.specs.declared.answer.Answer.TheVariants as answers
use Rattle.office_core.specs.declared.answer.AuditReport.{AuditReport}
use Rattle.office_core.specs.declared.answer.AuditReport.TheVariants.{Invalid}
use Rattle.office_core.specs.declared.answer.DepositRecord.{DepositRecord}
use Rattle.office_core.specs.declared.request.Request.{Request}
use Rattle.office_core.specs.declared.request.Request.TheVariants.{DefineClass, DefineCollection, Deposit, List as ListDeposits, Record, Holds, DownloadBag, DownloadFile, Audit, HoldDeposit, HoldCollection, HoldClass, Release, Dispose, DueList}
use Rattle.office_rows.specs.Rows.{DepositRow, DueRow, FileRow, Tables, beside, deposit_numbered, due_numbered, file_at, files_of}
use Rattle.office_rows.specs.Told.{DisposableRow, disposable_rows}
use Rattle.office_history.specs.Answers.{Wanted, audit_report, file_answer, is_selected}
use Rattle.office_history.specs.Bags.{report_on}
use Rattle.office_history.specs.Pictures.{description_of}
use Rattle.office_by_rows.specs.Values.{count_of, count_up_to, day_numbered, due_of_number, things_told}
use Rattle.office_by_rows.specs.Asking.{Visit, days_of, denial_for, role_in, told_holds}
use Rattle.office_by_rows.specs.Refusals.{highest_deposit, highest_hold, number_after}

-- ---- a deposit, by its row

-- the names of a deposit's row are names
abbrev pub has_names : DepositRow → Bool
has_names row = is_accession row.accession && (is_name row.collection && is_name row.class)

-- what the row of a deposit says, with its due row
abbrev pub record_by : DepositRow → DueRow → Option DepositRecord
record_by row due_row = do
  number ← count_of row.number
  days ← days_of row
  files ← count_up_to max_files row.files
  bytes ← count_up_to (max_files * max_content) row.bytes
  due ← due_of_number due_row.due
  if has_names row then Some (record { number = number; description = description_of row days.closed; deposited = days.deposited; files = files; bytes = bytes; due = due }) else None

abbrev pub record_in : Tables → DepositRow → Option Answer
record_in t row = do
  due_row ← due_numbered row.number t.dues
  told ← record_by row due_row
  Some (answers.Record told)

abbrev pub holds_in : Tables → ℕ → DepositRow → Option Answer
holds_in t n row = do
  told ← told_holds t n row.collection row.class
  Some (answers.Holds told)

-- ---- the files of a deposit

abbrev pub file_in : FileRow → File
file_in row = record { path = row.path; content = row.content }

-- byte by byte
abbrev pub path_cmp : FileRow → FileRow → Ordering
path_cmp f g = slice_cmp nat_cmp f.path g.path

-- the files of the deposit, ascending by path
abbrev pub files_by_path : ℤ → Tables → List FileRow
files_by_path n t = sort_by path_cmp (files_of n t)

-- the files that the tables have for the deposit of that number, ascending by path
abbrev pub stored_files : ℕ → Tables → List File
stored_files n t = map file_in (files_by_path (pos n) t)

-- their transfer form, where they are a bag
abbrev pub bag_in : Tables → ℕ → Option Answer
bag_in t n = if is_none (list_fault (stored_files n t)) then Some (answers.Bag (set_text (stored_files n t))) else None

-- the content of the file that is there at a path, which is any bytes: a path that no bag may have is that of no file, whatever is there
abbrev pub content_stored : ℕ → List ℕ → Tables → Option (List ℕ)
content_stored n path t = if is_good path then option_map (λ (file : FileRow). file.content) (file_at (pos n) path t.files) else None

abbrev pub audit_unless : Option SetFault → List File → AuditReport
audit_unless (Some fault) files = Invalid (set_fault_text fault)
audit_unless None files = audit_report (report_on files)

-- the audit of a list of files: the text of its first fault where it is no bag, and else the report on the bag, or the text of
-- the bag's first fault
abbrev pub audit_of : List File → AuditReport
audit_of files = audit_unless (list_fault files) files

-- ---- lists

-- whether the rules allow it, for that role on that day
abbrev pub is_allowed_for : Tables → List ℕ → Date → Action → List ℕ → List ℕ → Option Bool
is_allowed_for t role day action collection class = do
  denied ← denial_for t role day action (Some collection) (Some class)
  Some (is_none denied)

-- the deposit of the row is of the collection and the class that are asked for
abbrev pub is_wanted : Wanted → DepositRow → Bool
is_wanted wanted row = is_selected wanted.collection row.collection && is_selected wanted.class row.class

-- a deposit that was destroyed is not listed, and the day of that is one; where there is no such day, the rules are asked
abbrev pub is_shown_unless : Option ℤ → Tables → List ℕ → Date → DepositRow → Option Bool
is_shown_unless (Some gone) t role day row = do
  destroyed ← day_numbered gone
  Some false
is_shown_unless None t role day row = is_allowed_for t role day acts.List row.collection row.class

-- whether the deposit of the row is listed: one that isn't wanted is not, whatever else its row says
abbrev pub is_shown : Tables → List ℕ → Date → Wanted → DepositRow → Option Bool
is_shown t role day wanted row = if is_wanted wanted row then is_shown_unless row.gone t role day row else Some false

-- this where it is to be told, and else that there is nothing to tell
abbrev pub told_if : {A : Type 0} → Bool → Option A → Option (Option A)
told_if shown told = if shown then option_map Some told else Some None

-- the record of the deposit of the row, where it is listed
abbrev pub listed_record : Tables → List ℕ → Date → Wanted → DepositRow × DueRow → Option (Option DepositRecord)
listed_record t role day wanted both = do
  shown ← is_shown t role day wanted both.0
  told_if shown (record_by both.0 both.1)

-- the records of the deposits that are kept, asked for and allowed, in the order of the rows
abbrev pub listed_records : Tables → Visit → Wanted → Option (List DepositRecord)
listed_records t visit wanted = do
  role ← role_in t visit.caller
  things_told (listed_record t role visit.day wanted) (beside t.deposits t.dues)

-- the number of the deposit that is there, where the rules allow that it is destroyed; what its row has for a due day is one, allowed or not
abbrev pub disposable_told : Tables → List ℕ → Date → DisposableRow → Option (Option ℕ)
disposable_told t role day row = do
  due ← due_of_number row.due
  allowed ← is_allowed_for t role day acts.Dispose row.collection row.class
  told_if allowed (count_of row.number)

-- the numbers of the kept deposits that have fallen due by that day, are under no hold, and that the rules let the caller destroy
abbrev pub due_list : Tables → Visit → Option (List ℕ)
due_list t visit = do
  role ← role_in t visit.caller
  things_told (disposable_told t role visit.day) (disposable_rows (epoch_day visit.day) t)

-- ---- the answer to a request that isn't refused

abbrev pub allowed_answer : Tables → Visit → Request → Option Answer
allowed_answer t visit (DefineClass name years) = Some (answers.Class name years)
allowed_answer t visit (DefineCollection name) = Some (answers.Collection name)
allowed_answer t visit (Deposit description bag) = option_map answers.Deposited (number_after (highest_deposit t))
allowed_answer t visit (ListDeposits collection class) = option_map answers.List (listed_records t visit (record { collection = collection; class = class }))
allowed_answer t visit (Record n) = deposit_numbered (pos n) t.deposits >>= record_in t
allowed_answer t visit (Holds n) = deposit_numbered (pos n) t.deposits >>= holds_in t n
allowed_answer t visit (DownloadBag n) = bag_in t n
allowed_answer t visit (DownloadFile n path) = Some (file_answer (content_stored n path.now t))
allowed_answer t visit (Audit n) = Some (answers.Audit n (audit_of (stored_files n t)))
allowed_answer t visit (HoldDeposit n matter) = option_map answers.HoldPlaced (number_after (highest_hold t))
allowed_answer t visit (HoldCollection name matter) = option_map answers.HoldPlaced (number_after (highest_hold t))
allowed_answer t visit (HoldClass name matter) = option_map answers.HoldPlaced (number_after (highest_hold t))
allowed_answer t visit (Release k) = Some (answers.HoldReleased k visit.day)
allowed_answer t visit (Dispose n) = Some (answers.Destroyed n visit.day)
allowed_answer t visit DueList = option_map (answers.DueList visit.day) (due_list t visit)
