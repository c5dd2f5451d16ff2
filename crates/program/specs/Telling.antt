-- What is printed to standard error, and how the program ends. `was` is standard error before and `now` the same after.
use Rattle.std.specs.Prelude.{◌≡◌, ◌⊎◌, ◌++◌, ◌∷◌, [], ℕ, List, Option, None, Some, codes, decimal, string_bytes}
use Rattle.std.specs.Io.KnownBytes.{Appends}
use Rattle.std.specs.IoError.{error_kind}
use Rattle.std.specs.declared.io.ErrorKind.{ErrorKind}
use Rattle.std.specs.declared.io.ErrorKind.TheVariants.{InvalidData}
use Rattle.streams.specs.Writing.{GoesOnWith, IsCutShort}
use Rattle.bag_check.specs.FaultTexts.{printed_text}
use Rattle.bag_folders.specs.declared.failed.Failed.TheVariants as folders
use Rattle.commands.specs.Failing.{failure_of_trouble, failure_of_kind, message_of}
use Rattle.commands.specs.declared.ending.Ending.{Ending}
use Rattle.commands.specs.declared.ending.Ending.TheVariants.{Failed, Misused, Unsaid}
use Rattle.commands.specs.declared.failure.Failure.TheVariants.{Device, Memory}
use Rattle.command_line.specs.declared.use_fault.UseFault.{UseFault}
use Rattle.command_line.specs.declared.use_fault.UseFault.TheVariants as uses
use Rattle.office_stores.specs.Texts.{ending_of, command_fault_text}
use Rattle.program.specs.Streams.{Stream}
use Rattle.program.specs.declared.stopped.Stopped.{Stopped}
use Rattle.program.specs.declared.stopped.Stopped.TheVariants.{Folder, Output, Store, Unread}
use Rattle.program.specs.declared.tried.Tried.{Tried}
use Rattle.program.specs.declared.tried.Tried.TheVariants as tried

-- ---- a text

-- the text comes after what standard error held, and the program ends in this way; or standard error fails, and has a beginning of the text
abbrev pub TellsPerson : {E : Type 0} → List ℕ → Ending → Stream E → Stream E → Ending → Type 0
TellsPerson text end was now ending =
    ((ending ≡ end) × Appends was.bytes now.bytes text) ⊎ ((ending ≡ Unsaid) × IsCutShort text was.bytes now.bytes)

-- the same, and more may follow the text
abbrev pub TellsFirst : {E : Type 0} → List ℕ → Ending → Stream E → Stream E → Ending → Type 0
TellsFirst text end was now ending =
    ((ending ≡ end) × GoesOnWith text was.bytes now.bytes) ⊎ ((ending ≡ Unsaid) × IsCutShort text was.bytes now.bytes)

-- that memory ran out
abbrev pub TellsMemory : {E : Type 0} → Stream E → Stream E → Ending → Type 0
TellsMemory was now ending = TellsPerson (message_of Memory) Failed was now ending

-- ---- why an answer is what it is

-- the reason, where there is one; else standard error is left alone
abbrev pub TellsWhy : {E : Type 0} → Option (List ℕ) → Ending → Stream E → Stream E → Ending → Type 0
TellsWhy None end was now ending = (ending ≡ end) × (now ≡ was)
TellsWhy (Some reason) end was now ending = TellsPerson reason end was now ending

-- ---- why a run fails

-- the line that is printed first
abbrev pub line_told : Stopped → List ℕ
line_told (Unread trouble) = message_of (failure_of_trouble trouble)
line_told (Folder (folders.Device trouble)) = message_of Device
line_told (Folder folders.Memory) = message_of Memory
line_told (Output error) = message_of (failure_of_kind (error_kind error))
line_told (Store fault) = command_fault_text fault

-- how the program ends then
abbrev pub ending_told : Stopped → Ending
ending_told (Unread trouble) = Failed
ending_told (Folder failed) = Failed
ending_told (Output error) = Failed
ending_told (Store fault) = ending_of fault

-- the line, and more for a person; or that there was no memory for the line
abbrev pub TellsOf : {E : Type 0} → Stopped → Stream E → Stream E → Ending → Type 0
TellsOf stopped was now ending = TellsFirst (line_told stopped) (ending_told stopped) was now ending ⊎ TellsMemory was now ending

-- what was tried, in words for a person
abbrev pub tried_text : Tried → List ℕ
tried_text (tried.Read file) = codes "read " ++ printed_text file.now
tried_text (tried.Look store) = codes "look at " ++ printed_text store.now
tried_text (tried.Open store) = codes "open " ++ printed_text store.now
tried_text (tried.Close store) = codes "close " ++ printed_text store.now
tried_text (tried.Install store) = codes "install the policy in " ++ printed_text store.now
tried_text (tried.Listen port) = codes "listen on 127.0.0.1:" ++ decimal port
tried_text tried.Accept = codes "accept a connection"
tried_text tried.Input = codes "read standard input"
tried_text tried.Output = codes "write standard output"

-- ---- why words are refused

-- this text, and the program ends as misused; or that there was no memory to read the words
abbrev pub Refuses : {E : Type 0} → List ℕ → Stream E → Stream E → Ending → Type 0
Refuses text was now ending = TellsPerson text Misused was now ending ⊎ TellsMemory was now ending

abbrev pub TellsOfUse : {E : Type 0} → UseFault → Stream E → Stream E → Ending → Type 0
TellsOfUse (uses.Use reason) was now ending = TellsPerson (string_bytes reason) Misused was now ending
TellsOfUse uses.Memory was now ending = TellsMemory was now ending

-- what is said where the words could not be had: that one is no text, or the failure's line
abbrev pub unread_text : ErrorKind → List ℕ
unread_text InvalidData = codes "a word is not UTF-8: give names of files and folders in UTF-8" ++ 10 ∷ []
unread_text kind = message_of (failure_of_kind kind)

abbrev pub refusal_ending : ErrorKind → Ending
refusal_ending InvalidData = Misused
refusal_ending kind = Failed
