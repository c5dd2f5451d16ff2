-- Which rows a request leaves where nothing is refused, by the rows of an office.
use Rattle.std.specs.Prelude.{ℕ, ℤ, pos, negsuc, ◌+ℤ◌, ◌&&◌, List, [], ◌∷◌, length, map, Option, Some, None, Result, Ok, Err, if◌then◌else◌}
use Rattle.jiff.specs.Types.{Date}
use Rattle.jiff.specs.Words.{epoch_day}
use Rattle.bag_text.specs.TransferForm.{File}
use Rattle.office_core.specs.Descriptions.{Description}
use Rattle.office_core.specs.FirstOf.{◌>>=◌}
use Rattle.office_core.specs.Policies.{PolicyValue}
use Rattle.office_core.specs.Retention.{due_number}
use Rattle.office_core.specs.RetentionReading.{due_of}
use Rattle.office_core.specs.declared.request.Request.{Request}
use Rattle.office_core.specs.declared.request.Request.TheVariants.{DefineClass, DefineCollection, Deposit, HoldDeposit, HoldCollection, HoldClass, Release, Dispose}
use Rattle.office_core.specs.declared.retention.Due.{Due}
use Rattle.office_rows.specs.Rows.{DepositRow, HoldRow, Tables, class_named, due_numbered, hold_numbered, limits_of, live_holds, with_class, with_collection, with_due, with_file, with_gone, with_hold, with_holds, with_deposit_and_due, with_more_holds, with_more_holds_class, with_policy, with_released, without_files}
use Rattle.office_rows.specs.Told.{ClosingRow, class_closings}
use Rattle.office_history.specs.Bags.{bag_of}
use Rattle.office_history.specs.Histories.{Target, OnDeposit, OnCollection, OnClass}
use Rattle.office_history.specs.Pictures.{caller_row, held_class, held_collection, held_deposit, row_by_gone, rule_rows, years_number}
use Rattle.office_by_rows.specs.Values.{day_numbered, is_between, years_of_number}
use Rattle.office_by_rows.specs.Asking.{Visit, are_released_on_days, target_of}
use Rattle.office_by_rows.specs.Refusals.{highest_deposit, highest_hold, number_after}

-- ---- the policy

-- its callers and rules replace all that were there
abbrev pub installed : PolicyValue → Tables → Tables
installed policy t = with_policy (map caller_row policy.callers) (rule_rows 1 policy.rules) t

-- ---- a class

-- each of these deposits, which was closed on a day, falls due as these years say
abbrev pub with_due_days : Option ℕ → List ClosingRow → Tables → Option Tables
with_due_days years [] t = Some t
with_due_days years (row ∷ rows) t = do
  closed ← day_numbered row.closed
  with_due_days years rows (with_due row.number (due_number (due_of closed years)) t)

-- the class has these years, also for the deposits that are there
abbrev pub with_years : List ℕ → Option ℕ → Tables → Option Tables
with_years name years t = with_due_days years (class_closings name t) (with_class name (years_number years) t)

-- ---- a deposit

-- its row, which names the files of the payload and their bytes
abbrev pub new_deposit : ℕ → Description → Date → List File → DepositRow
new_deposit n description day bag = row_by_gone n None (day, record { description = description; bag = bag })

-- the day from which a deposit of the class may be destroyed that was closed on that day
abbrev pub due_in : Tables → List ℕ → Date → Option Due
due_in t class closed = do
  row ← class_named class t.classes
  years ← years_of_number row.years
  Some (due_of closed years)

-- how many live holds cover a deposit, where each that does was released on a day of the office or not at all
abbrev pub count_in : Tables → ℕ → List ℕ → List ℕ → Option ℕ
count_in t n collection class = if are_released_on_days n collection class t then Some (length (live_holds (pos n) collection class t)) else None

-- the deposit of that number has these files too
abbrev pub with_files : ℤ → List File → Tables → Tables
with_files n [] t = t
with_files n (f ∷ fs) t = with_files n fs (with_file (record { deposit = n; path = f.path; content = f.content }) t)

-- the bag is kept as the deposit with that row
abbrev pub stored_as : ℕ → DepositRow → Date → List File → Tables → Option Tables
stored_as n row closed bag t = do
  due ← due_in t row.class closed
  holds ← count_in t n row.collection row.class
  Some (with_files (pos n) bag (with_deposit_and_due row (due_number due) (pos holds) t))

abbrev pub if_bag : Result (List File) (List ℕ) → (List File → Option Tables) → Option Tables
if_bag (Ok bag) next = next bag
if_bag (Err fault) next = None

-- ---- holds

-- as many more live holds over the deposit, neither before nor then below 0 or above what the office takes
abbrev pub counted_on : ℕ → ℤ → Tables → Option Tables
counted_on n by t = do
  limits ← limits_of t
  due_row ← due_numbered (pos n) t.dues
  if is_between (pos 0) limits.max_holds due_row.holds && is_between (pos 0) limits.max_holds (due_row.holds +ℤ by) then Some (with_holds (pos n) (due_row.holds +ℤ by) t) else None

-- as many more live holds over each deposit that a hold on this reaches
abbrev pub counted_over : Target → ℤ → Tables → Option Tables
counted_over (OnDeposit n) by t = counted_on n by t
counted_over (OnCollection name) by t = Some (with_more_holds name by t)
counted_over (OnClass name) by t = Some (with_more_holds_class name by t)

-- the row of a new hold
abbrev pub new_hold : ℕ → Target → List ℕ → Date → HoldRow
new_hold k target matter day = record { number = pos k; deposit = held_deposit target; collection = held_collection target; class = held_class target; matter = matter; placed = epoch_day day; released = None }

-- the hold is placed, and counted over the deposits that it reaches
abbrev pub placed : Date → Target → List ℕ → Tables → Option Tables
placed day target matter t = do
  k ← number_after (highest_hold t)
  counted_over target (pos 1) (with_hold (new_hold k target matter day) t)

-- the hold is released, and counted no more
abbrev pub released : Date → ℕ → Tables → Option Tables
released day k t = do
  row ← hold_numbered (pos k) t.holds
  target ← target_of row
  counted_over target (negsuc 0) (with_released (pos k) (epoch_day day) t)

-- ---- a disposal

-- the row of the deposit has the day, and the deposit has no files
abbrev pub destroyed : ℕ → Date → Tables → Tables
destroyed n day t = without_files (pos n) (with_gone (pos n) (epoch_day day) t)

-- ---- the rows that a request leaves

abbrev pub allowed_rows : Tables → Visit → Request → Option Tables
allowed_rows t visit (DefineClass name years) = with_years name years t
allowed_rows t visit (DefineCollection name) = Some (with_collection name t)
allowed_rows t visit (Deposit description bag) = do
  n ← number_after (highest_deposit t)
  if_bag (bag_of bag.now) (λ files. stored_as n (new_deposit n description visit.day files) description.closed files t)
allowed_rows t visit (HoldDeposit n matter) = placed visit.day (OnDeposit n) matter t
allowed_rows t visit (HoldCollection name matter) = placed visit.day (OnCollection name) matter t
allowed_rows t visit (HoldClass name matter) = placed visit.day (OnClass name) matter t
allowed_rows t visit (Release k) = released visit.day k t
allowed_rows t visit (Dispose n) = Some (destroyed n visit.day t)
allowed_rows t visit request = Some t
