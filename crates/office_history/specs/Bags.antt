-- What is deposited: the bag whose transfer form a text is, if it is that of a valid bag, and else the text's first fault.
-- That the two computations say what their tables say are laws of `bag_text` and `bag_check`.
use Rattle.std.specs.Prelude.{◌≡◌, ℕ, List, Result, Ok, Err}
use Rattle.bag_text.specs.TransferForm.{File}
use Rattle.bag_text.specs.TransferReading.{set_of}
use Rattle.bag_text.specs.FaultTexts.{set_fault_text}
use Rattle.bag_text.specs.declared.set_fault.SetFault.{SetFault}
use Rattle.bag_check.specs.Validity.{Report}
use Rattle.bag_check.specs.Faults.{Fault}
use Rattle.bag_check.specs.FaultTexts.{fault_text}
use Rattle.bag_check.specs.Judging.{judge}
use Rattle.bag_check.specs.Answers.{report_seen}
use Rattle.bag_text.specs.declared.report.BagReport.{BagReport}

-- the report on a bag, or the text of its first fault
abbrev pub report_or_text : Result Report Fault → Result Report (List ℕ)
report_or_text (Ok report) = Ok report
report_or_text (Err fault) = Err (fault_text fault)

abbrev pub report_on : List File → Result Report (List ℕ)
report_on bag = report_or_text (judge bag)

-- what a call says of a bag is what judging it gives
abbrev pub IsReported : Result BagReport (List ℕ) → Result Report (List ℕ) → Type 0
IsReported (Ok report) judged = judged ≡ Ok (report_seen report)
IsReported (Err fault) judged = judged ≡ Err fault

abbrev pub if_valid : List File → Result Report (List ℕ) → Result (List File) (List ℕ)
if_valid bag (Ok report) = Ok bag
if_valid bag (Err fault) = Err fault

abbrev pub valid_bag : Result (List File) SetFault → Result (List File) (List ℕ)
valid_bag (Ok bag) = if_valid bag (report_on bag)
valid_bag (Err fault) = Err (set_fault_text fault)

-- the valid bag of this transfer form, or the text of the first fault
abbrev pub bag_of : List ℕ → Result (List File) (List ℕ)
bag_of text = valid_bag (set_of text)
