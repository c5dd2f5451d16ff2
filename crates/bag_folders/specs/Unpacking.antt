-- What unpacking a text comes to: the files of the bag whose form it is, or why it is none.
use Rattle.std.specs.Prelude.{◌≡◌, ℕ, ◌+◌, ◌<◌, ◌≤◌, Bool, not, ◌&&◌, List, [], ◌∷◌, ◌++◌, Option, Some, None, ◌==◌, Result, Ok, Err, IfSome, bytes_eq, codes, filter_map, if◌then◌else◌, length, map, option_map, string_bytes, take}
use Rattle.std.specs.List.{list_any}
use Rattle.std.specs.declared.io.Read.{Ghosts as Reads}
use Rattle.std.specs.List.Sorted.{IsPermutation}
use Rattle.std.specs.Option.{option_or}
use Rattle.bag_check.specs.Contents.{declaration_path, is_payload}
use Rattle.bag_text.specs.TransferForm.{File, IsFormOf, max_form}
use Rattle.bag_text.specs.TransferFaults.{FaultIs}
use Rattle.bag_text.specs.declared.set_fault.SetFault.{SetFault}
use Rattle.bag_text.specs.declared.set_fault.SetFault.TheVariants as sets
use Rattle.fault_words.specs.OtherFiles.{hint_for}
use Rattle.fault_words.specs.declared.other_file.OtherFile.{OtherFile}
use Rattle.bag_folders.specs.declared.failed.Failed.{Failed}
use Rattle.bag_folders.specs.declared.failed.Failed.TheVariants as failures
use Rattle.bag_folders.specs.declared.listed.Listed.{Listed}
use Rattle.bag_folders.specs.declared.unpacking.Unpacked.{Unpacked}
use Rattle.bag_folders.specs.declared.unpack_fault.UnpackFault.{UnpackFault}
use Rattle.bag_folders.specs.declared.unpack_fault.UnpackFault.TheVariants.{Set, Size, Exists, Device, Memory}

-- why this text isn't unpacked: it is too long, or its first fault, and what it looks like
abbrev pub IsUnreadable : List ℕ → UnpackFault → Type 0
IsUnreadable text Size = max_form < length text
IsUnreadable text (Set fault other) = (length text ≤ max_form) × FaultIs text fault × (other ≡ hint_for fault text)
IsUnreadable text Memory = Unit {0}
IsUnreadable text fault = ⊥

-- what is judged of a file: all that a form may have, and one byte more, by which a longer one is recognized
abbrev pub judged_part : List ℕ → List ℕ
judged_part given = take (max_form + 1) given

-- ---- what is made of a bag

-- the folder that a file is in: what is before the last slash of its path
unfoldable pub folder_of : List ℕ → Option (List ℕ)
folder_of [] = None
folder_of (b ∷ path) = option_or (option_map (λ folder. b ∷ folder) (folder_of path)) (if b == 47 then Some [] else None)

-- a bag's declaration is among the paths, and no payload file, so that none of them needs the folder `data`
abbrev pub needs_data : List (List ℕ) → Bool
needs_data paths = list_any (λ path. bytes_eq path declaration_path) paths && not (list_any is_payload paths)

-- the folders that are made: those that the files of these paths are in, and `data` for a bag without a payload
abbrev pub folders_of : List (List ℕ) → List (List ℕ)
folders_of paths = filter_map folder_of paths ++ (if needs_data paths then codes "data" ∷ [] else [])

-- something may be where the folder is to be made, or fail
abbrev pub CanStop : UnpackFault → Type 0
CanStop Exists = Unit {0}
CanStop (Device trouble) = Unit {0}
CanStop Memory = Unit {0}
CanStop fault = ⊥

-- the files of the bag are made, unless something stops it
abbrev pub MakesFiles : List File → Result Unpacked UnpackFault → Type 0
MakesFiles files (Ok unpacked) = unpacked.files ≡ length files
MakesFiles files (Err fault) = CanStop fault

-- ---- what comes of a text

-- the files of the bag whose form it is are made; or it is refused; only the form of a bag meets something that is there
abbrev pub IsUnpackedFrom : List ℕ → Result Unpacked UnpackFault → Type 0
IsUnpackedFrom text (Ok unpacked) = (files : List File) × IsFormOf files text × (unpacked.files ≡ length files)
IsUnpackedFrom text (Err Exists) = (files : List File) × IsFormOf files text
IsUnpackedFrom text (Err (Device trouble)) = Unit {0}
IsUnpackedFrom text (Err fault) = IsUnreadable text fault

-- the fault is one of the form
abbrev pub IsOfForm : UnpackFault → Type 0
IsOfForm (Set fault other) = Unit {0}
IsOfForm Size = Unit {0}
IsOfForm fault = ⊥

-- ---- what comes of a file

-- a file of which this is so, where it is known what it gives
abbrev pub SomeFile : {F : Type 0} → Reads F → (List ℕ → Type 0) → Type 0
SomeFile {F} reads Is = (file : F) × IfSome (reads.remaining file) Is

-- what comes of the text that a file gives, unless a device or memory fails
abbrev pub IsUnpackedFromFile : {F : Type 0} → Reads F → Result Unpacked UnpackFault → Type 0
IsUnpackedFromFile reads (Err (Device trouble)) = Unit {0}
IsUnpackedFromFile reads (Err Memory) = Unit {0}
IsUnpackedFromFile reads result = SomeFile reads (λ given. IsUnpackedFrom (judged_part given) result)

-- ---- what is said of a file, of which no contract says what it holds

-- some bag has this number of files
abbrev pub IsUnpacked : Unpacked → Type 0
IsUnpacked unpacked = (files : List File) × (text : List ℕ) × IsFormOf files text × (unpacked.files ≡ length files)

-- a text that may be read is refused so; something may be where the folder is to be made, and a device may fail
abbrev pub MayBeUnreadable : UnpackFault → Type 0
MayBeUnreadable Exists = Unit {0}
MayBeUnreadable (Device trouble) = Unit {0}
MayBeUnreadable fault = (text : List ℕ) × IsUnreadable text fault

-- ---- what was unpacked is packed again

-- the path and the length of a file
abbrev pub file_outline : File → List ℕ × ℕ
file_outline f = (f.path, length f.content)

abbrev pub listed_outline : Listed → List ℕ × ℕ
listed_outline l = (string_bytes l.path, l.size)

-- the files are found again, in whichever order
abbrev pub AreFoundAgain : List File → List Listed → Type 0
AreFoundAgain files found = IsPermutation (map file_outline files) (map listed_outline found)

-- ---- faults of what lies below

abbrev pub unpack_fault_of : SetFault → Option OtherFile → UnpackFault
unpack_fault_of sets.Memory other = Memory
unpack_fault_of fault other = Set fault other

abbrev pub unpack_failed : Failed → UnpackFault
unpack_failed (failures.Device trouble) = Device trouble
unpack_failed failures.Memory = Memory
