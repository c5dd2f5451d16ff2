-- Why a text is no transfer form: the table of faults, which knows nothing of reading.
use Rattle.std.specs.Prelude.{◌≡◌, ℕ, ◌+◌, ◌-◌, ◌≤◌, ◌<◌, true, false, List, [], ◌∷◌, ◌++◌, length, ◌⊎◌, ◌≢◌}
use Rattle.std.specs.List.{flat_map, AllByRecursion}
use Rattle.bag_text.specs.declared.set_fault.SetFault.{SetFault}
use Rattle.bag_text.specs.declared.set_fault.SetFault.TheVariants.{BadOpening, BadEntry, Truncated, OutOfOrder, BadPath, TooManyFiles, TrailingBytes, PathClash}
use Rattle.bag_text.specs.Paths.{max_path, is_good, comes_before}
use Rattle.bag_text.specs.TransferForm.{File, Head, header, entry, opening, ending, max_content, max_files, Ascends, clashes, Fits}

abbrev pub BeginsWith : (List ℕ → Type 0) → List ℕ → Type 0
BeginsWith P t = (front : List ℕ) × (rest : List ℕ) × P front × (t ≡ front ++ rest)

-- bytes appended to it give one of these
abbrev pub IsProperBeginning : (List ℕ → Type 0) → List ℕ → Type 0
IsProperBeginning P t = (more : List ℕ) × (more ≢ []) × P (t ++ more)

abbrev pub IsOpening : List ℕ → Type 0
IsOpening t = t ≡ opening

pub record HasSizes (p c : ℕ) : Type 0 where
  pub some_path : 1 ≤ p
  pub short_path : p ≤ max_path
  pub short_content : c ≤ max_content

-- what may be where an entry begins: END LF, or a header
abbrev pub IsEndOrHeader : List ℕ → Type 0
IsEndOrHeader t = (t ≡ ending) ⊎ ((p : ℕ) × (c : ℕ) × HasSizes p c × (t ≡ header p c))

-- the text begins with this header, whose sizes an entry may have
pub record IsHeaded (head : Head) (t : List ℕ) : Type 0 where
  pub sizes : HasSizes head.path_len head.content_len
  pub text : t ≡ header head.path_len head.content_len ++ head.rest

-- An entry after its header: what ends before its last byte, has another byte there, a bad path, or
-- one that isn't greater than the one before.
abbrev pub EntryFault : ℕ → List ℕ → Head → SetFault → Type 0
EntryFault offset before head Truncated = length head.rest < head.path_len + head.content_len + 1
EntryFault offset before head (BadEntry n) =
    (n ≡ offset) × ((path : List ℕ) × (content : List ℕ) × (b : ℕ) × (more : List ℕ) × (length path ≡ head.path_len) × (length content ≡ head.content_len) × (b ≢ 10) × (head.rest ≡ path ++ content ++ b ∷ more))
EntryFault offset before head (BadPath n) =
    (n ≡ offset) × ((path : List ℕ) × (content : List ℕ) × (more : List ℕ) × (length path ≡ head.path_len) × (length content ≡ head.content_len) × (head.rest ≡ path ++ content ++ 10 ∷ more) × (is_good path ≡ false))
EntryFault offset before head (OutOfOrder n) =
    (n ≡ offset) × ((path : List ℕ) × (content : List ℕ) × (more : List ℕ) × (length path ≡ head.path_len) × (length content ≡ head.content_len) × (head.rest ≡ path ++ content ++ 10 ∷ more) × (is_good path ≡ true) × (comes_before before path ≡ false))
EntryFault offset before head fault = ⊥

-- a fault where an entry may begin, and this number of files may follow
abbrev pub PositionFault : ℕ → ℕ → List ℕ → List ℕ → SetFault → Type 0
PositionFault offset left before t Truncated =
    IsProperBeginning IsEndOrHeader t
    ⊎ ((head : Head) × IsHeaded head t × (0 < left) × EntryFault offset before head Truncated)
PositionFault offset left before t (BadEntry n) =
    ((n ≡ offset) × (BeginsWith IsEndOrHeader t → ⊥) × (IsProperBeginning IsEndOrHeader t → ⊥))
    ⊎ ((head : Head) × IsHeaded head t × (0 < left) × EntryFault offset before head (BadEntry n))
PositionFault offset left before t TooManyFiles = (left ≡ 0) × ((head : Head) × IsHeaded head t)
PositionFault offset left before t TrailingBytes = (more : List ℕ) × (more ≢ []) × (t ≡ ending ++ more)
PositionFault offset left before t fault = (head : Head) × IsHeaded head t × (0 < left) × EntryFault offset before head fault

abbrev pub last_path : List ℕ → List File → List ℕ
last_path before [] = before
last_path before (f ∷ fs) = last_path f.path fs

-- files without fault, and what follows them
pub record GoOn (files : List File) (t rest : List ℕ) : Type 0 where
  pub text : t ≡ opening ++ flat_map entry files ++ rest
  pub few : length files ≤ max_files
  pub each : AllByRecursion Fits files
  pub ascending : Ascends [] files

abbrev pub FaultIs : List ℕ → SetFault → Type 0
FaultIs t BadOpening = (BeginsWith IsOpening t → ⊥) × (IsProperBeginning IsOpening t → ⊥)
FaultIs t PathClash = (files : List File) × GoOn files t ending × (clashes files ≡ true)
FaultIs t Truncated =
    IsProperBeginning IsOpening t
    ⊎ ((files : List File) × (rest : List ℕ) × GoOn files t rest × PositionFault (length t - length rest) (max_files - length files) (last_path [] files) rest Truncated)
FaultIs t fault =
    (files : List File) × (rest : List ℕ) × GoOn files t rest × PositionFault (length t - length rest) (max_files - length files) (last_path [] files) rest fault
