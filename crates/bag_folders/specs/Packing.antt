-- What packing a folder comes to: its files in the order of their paths, and of these the form, or
-- the first fault.
use Rattle.std.specs.Prelude.{◌≡◌, ◌≢◌, ◌⊎◌, ℕ, ◌<◌, Bool, bytes_eq, List, [], ◌∷◌, Option, Some, None, length, map, option_and_then, option_map, slice_get, string_bytes}
use Rattle.std.specs.List.{list_any}
use Rattle.std.specs.List.Sorted.{IsPermutation, IsSortedBy}
use Rattle.bag_check.specs.Contents.{declaration_path}
use Rattle.bag_text.specs.Paths.{comes_before}
use Rattle.bag_text.specs.TransferForm.{File, IsBag, IsFormOf, max_form, set_text}
use Rattle.bag_text.specs.BagList.{ListFault}
use Rattle.bag_text.specs.declared.set_fault.SetFault.{SetFault}
use Rattle.bag_text.specs.declared.set_fault.SetFault.TheVariants as sets
use Rattle.bag_folders.specs.declared.failed.Failed.{Failed}
use Rattle.bag_folders.specs.declared.failed.Failed.TheVariants as failures
use Rattle.bag_folders.specs.Listing.{AreListed, IsFoundIn}
use Rattle.bag_folders.specs.declared.listed.Entry.{Entry}
use Rattle.bag_folders.specs.declared.listed.Found.{Found}
use Rattle.bag_folders.specs.declared.listed.Listed.{Listed}
use Rattle.bag_folders.specs.declared.packing.Packed.{Packed}
use Rattle.bag_folders.specs.declared.pack_fault.PackFault.{PackFault}
use Rattle.bag_folders.specs.declared.pack_fault.PackFault.TheVariants.{Name, Set, Size, Device, Memory}

-- ---- files

-- the files have the paths and the sizes that are listed
abbrev pub AreFilesOf : List Listed → List File → Type 0
AreFilesOf [] [] = Unit {0}
AreFilesOf (l ∷ ls) (f ∷ fs) = (f.path ≡ string_bytes l.path) × (length f.content ≡ l.size) × AreFilesOf ls fs
AreFilesOf ls fs = ⊥

-- these are the files that were found, in the order of their paths
pub record AreInPathOrder (found listed : List Listed) : Type 0 where
  pub same : IsPermutation found listed
  pub order : IsSortedBy (λ a b. comes_before (string_bytes a.path) (string_bytes b.path)) listed

-- ---- the file at fault

-- its position, where the fault is one file's
abbrev pub fault_offset : SetFault → Option ℕ
fault_offset (sets.BadEntry position) = Some position
fault_offset (sets.OutOfOrder position) = Some position
fault_offset (sets.BadPath position) = Some position
fault_offset fault = None

-- its path
abbrev pub path_at_fault : SetFault → List (List ℕ) → Option (List ℕ)
path_at_fault fault paths = option_and_then (slice_get paths) (fault_offset fault)

-- the paths of the files, and of files that are listed
abbrev pub paths_found : List File → List (List ℕ)
paths_found = map (λ f. f.path)

abbrev pub listed_paths : List Listed → List (List ℕ)
listed_paths = map (λ l. string_bytes l.path)

-- a bag's declaration is among files of these paths
abbrev pub is_declared : List (List ℕ) → Bool
is_declared paths = list_any (λ path. bytes_eq path declaration_path) paths

-- and among files that are listed
abbrev pub is_any_declared : List Listed → Bool
is_any_declared listed = list_any (λ l. bytes_eq (string_bytes l.path) declaration_path) listed

-- ---- what comes of them

-- why there is no form of these files in this order: the first fault of the list, with the path of the file at fault, or else its length
abbrev pub HasNoForm : List File → PackFault → Type 0
HasNoForm files (Set fault path) = ListFault files fault × (option_map string_bytes path ≡ path_at_fault fault (paths_found files))
HasNoForm files Size = IsBag files × (max_form < length (set_text files))
HasNoForm files Memory = Unit {0}
HasNoForm files fault = ⊥

-- whatever bytes the files have that are listed
abbrev pub AllFilesOf : List Listed → (List File → Type 0) → Type 0
AllFilesOf listed P = (files : List File) → AreFilesOf listed files → P files

-- why a folder in which this was found isn't packed, as far as the paths and sizes show: an odd entry comes
-- first, by its path
abbrev pub IsUnpackable : Found → PackFault → Type 0
IsUnpackable found (Name odd) = found.odd ≡ Some odd
IsUnpackable found Memory = Unit {0}
IsUnpackable found (Device trouble) = ⊥
IsUnpackable found fault =
    (found.odd ≡ None) × ((listed : List Listed) × AreInPathOrder found.files.items listed × AllFilesOf listed (λ files. HasNoForm files fault))

-- ---- what comes of folders that may be listed so

-- what is found under the first of them, where these entries may be listed
abbrev pub IsFoundUnder : (List ℕ → List Entry → Type 0) → Found → Type 0
IsFoundUnder lists found = (entries : List Entry) × AreListed lists entries × IsFoundIn entries found

-- all that was found are files; the form of them has this number of files and bytes, in the order of their paths; and it is said whether a declaration is among them
pub record IsPackedOf (found : Found) (packed : Packed) : Type 0 where
  pub listed : List Listed
  pub files : List File
  pub text : List ℕ
  pub odd : found.odd ≡ None
  pub order : AreInPathOrder found.files.items listed
  pub are : AreFilesOf listed files
  pub form : IsFormOf files text
  pub count : packed.files ≡ length files
  pub bytes : packed.bytes ≡ length text
  pub declared : packed.is_declared ≡ is_declared (paths_found files)

-- what was read of the files that are listed has no form; a device may fail
abbrev pub HasNoFormOf : List Listed → PackFault → Type 0
HasNoFormOf listed (Device trouble) = Unit {0}
HasNoFormOf listed Memory = Unit {0}
HasNoFormOf listed fault = (files : List File) × AreFilesOf listed files × HasNoForm files fault

-- what was found is refused, as far as paths and sizes show, or what was read of it has no form
abbrev pub IsRefusedOf : Found → PackFault → Type 0
IsRefusedOf found fault =
    IsUnpackable found fault
    ⊎ ((listed : List Listed) × (found.odd ≡ None) × AreInPathOrder found.files.items listed × HasNoFormOf listed fault)

-- so of what is found under the first of the folders; a device may fail
abbrev pub IsRefusedUnder : (List ℕ → List Entry → Type 0) → PackFault → Type 0
IsRefusedUnder lists (Device trouble) = Unit {0}
IsRefusedUnder lists Memory = Unit {0}
IsRefusedUnder lists fault = (found : Found) × IsFoundUnder lists found × IsRefusedOf found fault

-- ---- what is said of a folder, of which no contract says what it holds

-- some list of files and its form have this number of files and bytes, and a declaration is among them or isn't
abbrev pub IsPacked : Packed → Type 0
IsPacked packed = (files : List File) × (text : List ℕ) × IsFormOf files text × (packed.files ≡ length files) × (packed.bytes ≡ length text) × (packed.is_declared ≡ is_declared (paths_found files))

-- something that may be found under a folder is refused so, or files that may be read there have no form; a
-- device may fail
abbrev pub MayBeRefused : PackFault → Type 0
MayBeRefused (Device trouble) = Unit {0}
MayBeRefused fault = ((found : Found) × IsUnpackable found fault) ⊎ ((files : List File) × HasNoForm files fault)

-- ---- faults of what lies below

-- the fault of the files is named with this path, unless memory ran out
abbrev pub IsNamedAs : SetFault → Option (List ℕ) → PackFault → Type 0
IsNamedAs fault path (Set named own) = (named ≡ fault) × (fault ≢ sets.Memory) × (option_map string_bytes own ≡ path)
IsNamedAs fault path Memory = Unit {0}
IsNamedAs fault path other = ⊥

abbrev pub pack_failed : Failed → PackFault
pack_failed (failures.Device trouble) = Device trouble
pack_failed failures.Memory = Memory
