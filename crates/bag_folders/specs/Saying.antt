-- What the program says of a folder that was packed and of a form that was unpacked.
use Rattle.std.specs.Prelude.{◌≡◌, ℕ, ◌++◌, ◌∷◌, [], true, false, List, Option, Some, None, Result, Ok, Err, codes, decimal, if◌then◌else◌, option_map, string_bytes}
use Rattle.bag_text.specs.FaultTexts.{set_fault_text}
use Rattle.bag_text.specs.declared.set_fault.SetFault.{SetFault}
use Rattle.bag_check.specs.FaultTexts.{printed_text}
use Rattle.fault_words.specs.FaultWords.{exists_words, folder_words, too_large_words, too_long_words, undeclared_words, words_of_odd_entry}
use Rattle.fault_words.specs.OtherFiles.{form_lines}
use Rattle.bag_folders.specs.declared.failed.Failed.{Failed}
use Rattle.bag_folders.specs.declared.failed.Failed.TheVariants as failures
use Rattle.bag_folders.specs.declared.packing.Packed.{Packed}
use Rattle.bag_folders.specs.declared.pack_fault.PackFault.{PackFault}
use Rattle.bag_folders.specs.declared.pack_fault.PackFault.TheVariants as packing
use Rattle.bag_folders.specs.declared.said.Said.{Said}
use Rattle.bag_folders.specs.declared.unpacking.Unpacked.{Unpacked}
use Rattle.bag_folders.specs.declared.unpack_fault.UnpackFault.{UnpackFault}
use Rattle.bag_folders.specs.declared.unpack_fault.UnpackFault.TheVariants as unpacking

-- ---- the lines

abbrev pub packed_text : Packed → List ℕ
packed_text packed = codes "packed " ++ decimal packed.files ++ codes " files " ++ (decimal packed.bytes ++ (codes " bytes" ++ 10 ∷ []))

-- that what was packed is no bag yet, a line with its end, where that is so
abbrev pub packed_reason : Packed → Option (List ℕ)
packed_reason packed = if packed.is_declared then None else Some (undeclared_words ++ 10 ∷ [])

abbrev pub unpackable_text : List ℕ → List ℕ
unpackable_text fault = codes "unpackable " ++ fault ++ 10 ∷ []

abbrev pub unpacked_text : Unpacked → List ℕ
unpacked_text unpacked = codes "unpacked " ++ decimal unpacked.files ++ (codes " files" ++ 10 ∷ [])

abbrev pub unread_form_text : List ℕ → List ℕ
unread_form_text fault = codes "unreadable " ++ fault ++ 10 ∷ []

abbrev pub exists_text : List ℕ
exists_text = codes "exists" ++ 10 ∷ []

-- ---- the reasons that are printed to standard error, each in lines with their ends

abbrev pub line_of : List ℕ → List ℕ
line_of words = words ++ 10 ∷ []

-- of a file at fault: what is said of it after its path
abbrev pub file_reason : SetFault → List ℕ → List ℕ
file_reason fault path = (printed_text path ++ codes " ") ++ line_of (folder_words fault)

-- of the files of a folder, or of the one at fault, where there is one
abbrev pub files_reason : SetFault → Option (List ℕ) → List ℕ
files_reason fault None = line_of (folder_words fault)
files_reason fault (Some path) = file_reason fault path

-- ---- which is said

-- this line, this reason where there is one, and that the work was done
abbrev pub SaysDone : List ℕ → Option (List ℕ) → Said → Type 0
SaysDone text reason said = (string_bytes said.text ≡ text) × (option_map string_bytes said.reason ≡ reason) × (said.is_done ≡ true)

-- this line, this reason, and that the work wasn't done
abbrev pub SaysWhy : List ℕ → List ℕ → Said → Type 0
SaysWhy text reason said = (string_bytes said.text ≡ text) × (option_map string_bytes said.reason ≡ Some reason) × (said.is_done ≡ false)

abbrev pub SaysOfPack : Result Packed PackFault → Said → Type 0
SaysOfPack (Ok packed) said = SaysDone (packed_text packed) (packed_reason packed) said
SaysOfPack (Err (packing.Name odd)) said = SaysWhy (unpackable_text (codes "NAME")) (line_of (words_of_odd_entry (string_bytes odd.path) odd.cause)) said
SaysOfPack (Err (packing.Set fault path)) said =
    SaysWhy (unpackable_text (set_fault_text fault)) (files_reason fault (option_map string_bytes path)) said
SaysOfPack (Err packing.Size) said = SaysWhy (unpackable_text (codes "SIZE")) (line_of too_large_words) said
SaysOfPack (Err fault) said = ⊥

abbrev pub SaysOfUnpack : Result Unpacked UnpackFault → Said → Type 0
SaysOfUnpack (Ok unpacked) said = SaysDone (unpacked_text unpacked) None said
SaysOfUnpack (Err (unpacking.Set fault other)) said = SaysWhy (unread_form_text (set_fault_text fault)) (form_lines fault other) said
SaysOfUnpack (Err unpacking.Size) said = SaysWhy (unread_form_text (codes "SIZE")) (line_of too_long_words) said
SaysOfUnpack (Err unpacking.Exists) said = SaysWhy exists_text (line_of exists_words) said
SaysOfUnpack (Err fault) said = ⊥

-- ---- what failed: the device that is named, or memory

abbrev pub PackFails : Result Packed PackFault → Failed → Type 0
PackFails (Err (packing.Device trouble)) failed = failed ≡ failures.Device trouble
PackFails result failed = failed ≡ failures.Memory

abbrev pub UnpackFails : Result Unpacked UnpackFault → Failed → Type 0
UnpackFails (Err (unpacking.Device trouble)) failed = failed ≡ failures.Device trouble
UnpackFails result failed = failed ≡ failures.Memory
