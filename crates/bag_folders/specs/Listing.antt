-- What is found under a folder: the files among the entries that are listed in it and in each folder below it.
use Rattle.std.specs.Prelude.{◌≡◌, ◌≢◌, ◌⊎◌, ℕ, List, [], ◌∷◌, ◌++◌, length, ◌==◌, if◌then◌else◌, Option, Some, None, Result, Ok, Err, String, codes, filter_map, flat_map, slice_get, string_bytes}
use Rattle.std.specs.Fs.{dir_entry_name}
use Rattle.std.specs.IoError.{error_kind}
use Rattle.std.specs.Iterator.{Drains}
use Rattle.std.specs.declared.alloc.Global.{Global}
use Rattle.std.specs.declared.io.Error.{Error}
use Rattle.std.specs.declared.fs.dir.DirEntry.{DirEntry}
use Rattle.std.specs.declared.io.ErrorKind.TheVariants.{InvalidFilename}
use Rattle.std.specs.List.{AllZip}
use Rattle.bag_folders.specs.declared.failed.Failed.{Failed}
use Rattle.bag_folders.specs.declared.failed.Failed.TheVariants.{Memory}
use Rattle.bag_folders.specs.declared.listed.Entry.{Entry}
use Rattle.bag_folders.specs.declared.listed.Found.{Found}
use Rattle.bag_folders.specs.declared.listed.Kind.{Kind}
use Rattle.bag_folders.specs.declared.listed.Kind.TheVariants.{File, Folder, Odd}
use Rattle.bag_folders.specs.declared.listed.Listed.{Listed}
use Rattle.bag_folders.specs.declared.listed.Odd.{Odd as OddEntry}
use Rattle.fault_words.specs.declared.folder.OddCause.TheVariants.{NotUtf8}

-- the path of a name in a folder, of which either may be empty
abbrev pub joined : List ℕ → List ℕ → List ℕ
joined folder name = if length folder == 0 then name else if length name == 0 then folder else folder ++ 47 ∷ name

-- ---- one folder

-- an entry for a name that isn't UTF-8: that is why it is odd, and its path is `?`
abbrev pub IsUnnamed : List ℕ → Error → Entry → Type 0
IsUnnamed folder error entry = (error_kind error ≡ InvalidFilename) × (entry.kind ≡ Odd NotUtf8) × (string_bytes entry.path ≡ joined folder (codes "?"))

-- An entry for what the system gave for a name: the name; or that it isn't UTF-8, and then, and then alone, that is why the entry is odd.
abbrev pub IsToldOf : {R A F D : Type 0} → List ℕ → Result (DirEntry R A F D) Error → Entry → Type 0
IsToldOf folder (Ok name) entry = (string_bytes entry.path ≡ joined folder (dir_entry_name name)) × (entry.kind ≢ Odd NotUtf8)
IsToldOf folder (Err error) entry = IsUnnamed folder error entry

-- an entry for each name that the calls from here give, in this order
abbrev pub AreToldOf : {S R A F D : Type 0} → (S → Option (Result (DirEntry R A F D) Error) → S → Type 0) → List ℕ → S → List Entry → Type 0
AreToldOf {R = R} {A = A} {F = F} {D = D} steps folder names entries =
    (given : List (Result (DirEntry R A F D) Error)) × Drains steps names given × AllZip (IsToldOf folder) given entries

-- so of some names
abbrev pub AreToldOfSome : {S R A F D : Type 0} → (S → Option (Result (DirEntry R A F D) Error) → S → Type 0) → List ℕ → List Entry → Type 0
AreToldOfSome {S} steps folder entries = (names : S) × AreToldOf steps folder names entries

-- ---- a folder and all folders below it

-- these entries are listed at this path where it is a folder's, and none where it isn't
abbrev pub AreListedAt : (List ℕ → List Entry → Type 0) → List ℕ → Kind → List Entry → Type 0
AreListedAt lists path Folder entries = lists path entries
AreListedAt lists path kind entries = entries ≡ []

-- the entries of the first folder, and those of each folder among them
pub record AreListed (lists : List ℕ → List Entry → Type 0) (entries : List Entry) : Type 0 where
  pub first : List Entry
  pub below : List (List Entry)
  pub whole : entries ≡ first ++ flat_map (λ listed. listed) below
  pub are_first : lists [] first
  pub are_below : AllZip (λ entry listed. AreListedAt lists (string_bytes entry.path) entry.kind listed) entries below

-- one of the folders fails to be listed so, or memory runs out
abbrev pub CanFail : (List ℕ → Failed → Type 0) → Failed → Type 0
CanFail fails failed = (failed ≡ Memory) ⊎ ((folder : List ℕ) × fails folder failed)

-- ---- what is found

-- the file that an entry is
abbrev pub entry_file : String Global → Kind → Option Listed
entry_file path (File size) = Some (record { path = path; size = size })
entry_file path kind = None

abbrev pub file_listed : Entry → Option Listed
file_listed entry = entry_file entry.path entry.kind

-- an entry that has no place in a form
abbrev pub odd_of : String Global → Kind → Option OddEntry
odd_of path (Odd cause) = Some (record { path = path; cause = cause })
odd_of path kind = None

abbrev pub odd_in : Entry → Option OddEntry
odd_in entry = odd_of entry.path entry.kind

-- the files among the entries, and the first that is odd
abbrev pub IsFoundIn : List Entry → Found → Type 0
IsFoundIn entries found = (found.files.items ≡ filter_map file_listed entries) × (found.odd ≡ slice_get (filter_map odd_in entries) 0)
