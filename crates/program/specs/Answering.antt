-- What is said of a bag, of a policy, of a folder and of a form, and what becomes of it on standard output. `was` is the output before and `now`
-- the same after.
use Rattle.std.specs.Prelude.{◌≡◌, ⊤, ℕ, List, MatchResult, Result, Ok, Err, IfSome, codes, if◌then◌else◌, option_map, string_bytes, take}
use Rattle.std.specs.Io.KnownBytes.{Appends}
use Rattle.streams.specs.Writing.{IsCutShort}
use Rattle.bag_folders.specs.Packing.{IsPacked, MayBeRefused}
use Rattle.bag_folders.specs.Saying.{SaysOfPack, SaysOfUnpack}
use Rattle.bag_folders.specs.Unpacking.{IsUnpacked, MayBeUnreadable}
use Rattle.bag_folders.specs.declared.pack_fault.PackFault.{PackFault}
use Rattle.bag_folders.specs.declared.packing.Packed.{Packed}
use Rattle.bag_folders.specs.declared.said.Said.{Said}
use Rattle.bag_folders.specs.declared.unpack_fault.UnpackFault.{UnpackFault}
use Rattle.bag_folders.specs.declared.unpacking.Unpacked.{Unpacked}
use Rattle.commands.specs.Checking.{AreFirstOf, SaysOfBytes, bytes_to_read}
use Rattle.commands.specs.Explaining.{Explains}
use Rattle.commands.specs.Printing.{reason_of}
use Rattle.commands.specs.declared.asked.Asked.{Asked}
use Rattle.commands.specs.declared.ending.Ending.TheVariants.{Accepted, Refused}
use Rattle.commands.specs.declared.outcome.Outcome.{Outcome}
use Rattle.office_stores.specs.declared.done.Done.{Done}
use Rattle.program.specs.Streams.{Stream}
use Rattle.program.specs.declared.stopped.Stopped.{Stopped}
use Rattle.program.specs.declared.stopped.Stopped.TheVariants.{Folder, Output, Store, Unread}

-- ---- what is said

-- `check` says this of the bytes of the file. Where that is `-` they are the first that the input has, and it has the rest left.
pub record IsJudged {R : Type 0} (file : List ℕ) (was now : Stream R) (outcome : Outcome) : Type 0 where
  pub bytes : List ℕ
  pub says : SaysOfBytes bytes outcome
  pub taken : file ≡ codes "-" → AreFirstOf was.bytes now.bytes bytes
  pub given : file ≡ codes "-" → IfSome was.bytes (λ given. SaysOfBytes (take bytes_to_read given) outcome)

-- `explain` says this of the bytes of the policy
abbrev pub IsExplained : Asked → Outcome → Type 0
IsExplained asked outcome = (bytes : List ℕ) × Explains bytes asked outcome

-- what is said of a folder or a form, and that the answer is yes where the work was done
pub record IsOutcomeOf (said : Said) (outcome : Outcome) : Type 0 where
  pub text : string_bytes outcome.text ≡ string_bytes said.text
  pub reason : reason_of outcome ≡ option_map string_bytes said.reason
  pub ending : outcome.ending ≡ (if said.is_done then Accepted else Refused)

-- `pack` says this: that some bag was packed, or what may be refused
abbrev pub IsPackSaid : Outcome → Type 0
IsPackSaid outcome =
    (packing : Result Packed PackFault) × (said : Said) × MatchResult packing IsPacked MayBeRefused × SaysOfPack packing said × IsOutcomeOf said outcome

-- and `unpack` this
abbrev pub IsUnpackSaid : Outcome → Type 0
IsUnpackSaid outcome =
    (unpacking : Result Unpacked UnpackFault) × (said : Said) × MatchResult unpacking IsUnpacked MayBeUnreadable × SaysOfUnpack unpacking said × IsOutcomeOf said outcome

-- a file, a folder, the input or memory failed, and there is nothing to say
abbrev pub IsUnanswered : Stopped → Type 0
IsUnanswered (Unread trouble) = ⊤
IsUnanswered (Folder failed) = ⊤
IsUnanswered (Output error) = ⊥
IsUnanswered (Store fault) = ⊥

-- ---- on standard output

-- the text comes after what the output held, and what is left to do is to print the reason to standard error and to end so; or the output fails, and has a beginning of
-- the text
abbrev pub IsPrinted : {O : Type 0} → Outcome → Result Done Stopped → Stream O → Stream O → Type 0
IsPrinted outcome (Ok done) was now =
    Appends was.bytes now.bytes (string_bytes outcome.text) × (option_map string_bytes done.reason ≡ reason_of outcome) × (done.ending ≡ outcome.ending)
IsPrinted outcome (Err (Output error)) was now = IsCutShort (string_bytes outcome.text) was.bytes now.bytes
IsPrinted outcome (Err (Unread trouble)) was now = ⊥
IsPrinted outcome (Err (Folder failed)) was now = ⊥
IsPrinted outcome (Err (Store fault)) was now = ⊥

-- What is said is printed; or there is nothing to say, and the output is left alone.
pub data PrintsIfAny {O : Type 0} (IsSaid : Outcome → Type 0) (result : Result Done Stopped) (was now : Stream O) : Type 0 where
  printed : (outcome : Outcome) → IsSaid outcome → IsPrinted outcome result was now → PrintsIfAny IsSaid result was now
  unanswered : (stopped : Stopped) → IsUnanswered stopped → result ≡ Err stopped → now ≡ was → PrintsIfAny IsSaid result was now
