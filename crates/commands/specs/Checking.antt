-- What `check` prints of the bytes that it read, what it prints to standard error, and how it ends.
use Rattle.std.specs.Prelude.{ℕ, ◌+◌, ◌<◌, ◌≤◌, List, [], ◌∷◌, ◌++◌, Option, Some, None, length, codes, decimal}
use Rattle.std.specs.Io.KnownBytes.{Consumes}
use Rattle.bag_text.specs.TransferForm.{File, IsFormOf, max_form}
use Rattle.bag_text.specs.TransferFaults.{FaultIs}
use Rattle.bag_text.specs.Declaration.{version_text}
use Rattle.bag_text.specs.FaultTexts.{set_fault_text}
use Rattle.bag_text.specs.declared.declaration.Version.{Version}
use Rattle.bag_text.specs.declared.set_fault.SetFault.{SetFault}
use Rattle.bag_check.specs.Validity.{Report, Valid, report_of}
use Rattle.bag_check.specs.Faults.{Fault, FirstFault}
use Rattle.bag_check.specs.FaultTexts.{fault_text}
use Rattle.fault_words.specs.BagReasons.{bag_lines}
use Rattle.fault_words.specs.FaultWords.{too_long_words}
use Rattle.fault_words.specs.OtherFiles.{form_lines, hint_for}
use Rattle.commands.specs.declared.ending.Ending.TheVariants.{Accepted, Refused}
use Rattle.commands.specs.declared.outcome.Outcome.{Outcome}
use Rattle.commands.specs.Printing.{Prints}

-- a longer form is recognized by one byte past the most that a form has
abbrev pub bytes_to_read : ℕ
bytes_to_read = max_form + 1

-- these bytes are the first that a reader had left, and no more than are read
abbrev pub AreFirstOf : Option (List ℕ) → Option (List ℕ) → List ℕ → Type 0
AreFirstOf old new bytes = Consumes old new bytes × (length bytes ≤ bytes_to_read)

-- ---- the texts, each a line with its end

abbrev pub valid_text : Report → List ℕ
valid_text report =
    codes "valid " ++ version_text report.version ++ codes " files " ++ decimal report.files ++ codes " bytes " ++ decimal report.bytes
    ++ codes " manifests " ++ decimal report.manifests ++ 10 ∷ []

abbrev pub invalid_text : Fault → List ℕ
invalid_text fault = codes "invalid " ++ fault_text fault ++ 10 ∷ []

abbrev pub unreadable_text : SetFault → List ℕ
unreadable_text fault = codes "unreadable " ++ set_fault_text fault ++ 10 ∷ []

abbrev pub too_long_text : List ℕ
too_long_text = codes "unreadable SIZE" ++ 10 ∷ []

-- ---- the reasons that are printed to standard error: the fault in words, each in lines with their ends

abbrev pub invalid_reason : List File → Fault → List ℕ
invalid_reason files fault = bag_lines files fault

abbrev pub unreadable_reason : List ℕ → SetFault → List ℕ
unreadable_reason bytes fault = form_lines fault (hint_for fault bytes)

abbrev pub too_long_reason : List ℕ
too_long_reason = too_long_words ++ 10 ∷ []

-- ---- what is said

-- of a valid bag, and nothing on standard error
abbrev pub SaysValid : Report → Outcome → Type 0
SaysValid report outcome = Prints outcome (valid_text report) None Accepted

-- of a bag of these files with this fault
abbrev pub SaysInvalid : List File → Fault → Outcome → Type 0
SaysInvalid files fault outcome = Prints outcome (invalid_text fault) (Some (invalid_reason files fault)) Refused

-- of bytes that are no form, and have this fault
abbrev pub SaysUnreadable : List ℕ → SetFault → Outcome → Type 0
SaysUnreadable bytes fault outcome = Prints outcome (unreadable_text fault) (Some (unreadable_reason bytes fault)) Refused

-- of too many bytes
abbrev pub SaysTooLong : Outcome → Type 0
SaysTooLong outcome = Prints outcome too_long_text (Some too_long_reason) Refused

-- ---- of which bytes

-- What is said of a bag: that it is valid, or its first fault.
pub data SaysOfBag (files : List File) (outcome : Outcome) : Type 0 where
  valid : (v : Version) → Valid files v → SaysValid (report_of v files) outcome → SaysOfBag files outcome
  invalid : (fault : Fault) → FirstFault files fault → SaysInvalid files fault outcome → SaysOfBag files outcome

-- What is said of bytes: that they are too many, that they are no form and why, or what is said of the bag.
pub data SaysOfBytes (bytes : List ℕ) (outcome : Outcome) : Type 0 where
  too_long : max_form < length bytes → SaysTooLong outcome → SaysOfBytes bytes outcome
  unreadable : (fault : SetFault) → length bytes ≤ max_form → FaultIs bytes fault → SaysUnreadable bytes fault outcome → SaysOfBytes bytes outcome
  of_bag : (files : List File) → IsFormOf files bytes → SaysOfBag files outcome → SaysOfBytes bytes outcome
