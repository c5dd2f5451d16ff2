-- Why a list of files is no bag: the faults of the transfer form that a list can have, with the
-- position in the list, from 0, instead of the offset.
use Rattle.std.specs.Prelude.{◌≡◌, ℕ, ◌+◌, ◌<◌, ◌≤◌, true, false, not, List, [], ◌∷◌, ◌++◌, length, Option, Some, None, nat_lt, nat_le, if◌then◌else◌}
use Rattle.std.specs.Option.{option_or}
use Rattle.std.specs.List.{AllByRecursion}
use Rattle.bag_text.specs.Paths.{is_good, comes_before}
use Rattle.bag_text.specs.TransferForm.{File, max_content, max_files, Ascends, clashes, Fits}
use Rattle.bag_text.specs.TransferFaults.{last_path}
use Rattle.bag_text.specs.declared.set_fault.SetFault.{SetFault}
use Rattle.bag_text.specs.declared.set_fault.SetFault.TheVariants.{BadEntry, OutOfOrder, BadPath, TooManyFiles, PathClash}

-- files without fault, at the beginning of the list
pub record IsFront (front : List File) : Type 0 where
  pub few : length front ≤ max_files
  pub each : AllByRecursion Fits front
  pub ascending : Ascends [] front

-- the first fault of the file at this position, after the path before it
abbrev pub FileFault : ℕ → List ℕ → File → SetFault → Type 0
FileFault position before f (BadEntry n) = (n ≡ position) × (max_content < length f.content)
FileFault position before f TooManyFiles = (length f.content ≤ max_content) × (max_files ≤ position)
FileFault position before f (BadPath n) = (n ≡ position) × (length f.content ≤ max_content) × (position < max_files) × (is_good f.path ≡ false)
FileFault position before f (OutOfOrder n) =
    (n ≡ position) × (length f.content ≤ max_content) × (position < max_files) × (is_good f.path ≡ true) × (comes_before before f.path ≡ false)
FileFault position before f fault = ⊥

-- The first fault of a list that is no bag.
abbrev pub ListFault : List File → SetFault → Type 0
ListFault files PathClash = IsFront files × (clashes files ≡ true)
ListFault files fault =
    (front : List File) × (f : File) × (rest : List File) × (files ≡ front ++ f ∷ rest) × IsFront front × FileFault (length front) (last_path [] front) f fault

-- ---- the same by computing

abbrev pub file_fault : ℕ → List ℕ → File → Option SetFault
file_fault position before f =
    if nat_lt max_content (length f.content) then Some (BadEntry position)
    else if nat_le max_files position then Some TooManyFiles
    else if not (is_good f.path) then Some (BadPath position)
    else if not (comes_before before f.path) then Some (OutOfOrder position)
    else None

unfoldable pub fault_from : ℕ → List ℕ → List File → Option SetFault
fault_from position before [] = None
fault_from position before (f ∷ fs) = option_or (file_fault position before f) (fault_from (position + 1) f.path fs)

abbrev pub clash_fault : List File → Option SetFault
clash_fault files = if clashes files then Some PathClash else None

abbrev pub list_fault : List File → Option SetFault
list_fault files = option_or (fault_from 0 [] files) (clash_fault files)
