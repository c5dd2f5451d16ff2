-- The fault of a list of files that is computed is the one of the table, and none stands exactly in a bag.
use Rattle.bag_text.proofs.FirstLemmas.{false_from_ne_true, some_if, ◌≡◌, ℕ, ◌+◌, ◌<◌, ◌≤◌, Bool, true, false, cond, ltb, leb, not, List, [], ◌∷◌, ◌++◌, length, refl, sym, ap, subst, ◌∙◌, arith, Option, Some, None, AllByRecursion, nat_tests, same_Some, SetFault, BadEntry, OutOfOrder, BadPath, TooManyFiles, PathClash, is_good, comes_before, File, max_content, max_files, Ascends, clashes, Fits, IsBag, last_path, IsFront, FileFault, ListFault, file_fault, fault_from, list_fault, ◌↔◌}
use Rattle.bag_text.proofs.CaseLemmas.{by_Option}

abbrev pub some : SetFault → Option SetFault
some f = Some f

-- ---- one file

-- a file without fault, at this position after this path
pub record IsFine (place : ℕ) (before : List ℕ) (f : File) : Type 0 where
  pub room : place < max_files
  pub fits : Fits f
  pub after : comes_before before f.path ≡ true

-- the fault of a file at this place, by what is asked of it
abbrev pub judged : ℕ → Bool → Bool → Bool → Bool → Option SetFault
judged place long full good up = cond long (Some (BadEntry place)) (cond full (Some TooManyFiles) (cond (not good) (Some (BadPath place)) (cond (not up) (Some (OutOfOrder place)) None)))

-- A file has no fault exactly where it is fine.
file_none : (place : ℕ) (before : List ℕ) (f : File) → file_fault place before f ≡ None → IsFine place before f
file_none place before f e = by_tests (ltb max_content (length f.content)) (leb max_files place) (is_good f.path) (comes_before before f.path) refl refl refl refl e
  where
    by_tests : (long full good up : Bool) → ltb max_content (length f.content) ≡ long → leb max_files place ≡ full → is_good f.path ≡ good → comes_before before f.path ≡ up → judged place long full good up ≡ None → IsFine place before f
    by_tests false false true true a b c d e = record { room = grind (arith, nat_tests); fits = record { good = c; small = grind (arith, nat_tests) }; after = d }
    by_tests _ _ _ _ a b c d e = absurd cc

file_fine : (place : ℕ) (before : List ℕ) (f : File) → IsFine place before f → file_fault place before f ≡ None
file_fine place before f fine =
    let short : ltb max_content (length f.content) ≡ false = (let k = fine.fits.small in grind (arith, nat_tests)) in
    let room : leb max_files place ≡ false = (let k = fine.room in grind (arith, nat_tests)) in
    rw (short, room, fine.fits.good, fine.after) refl

-- A file has a fault exactly where the table says so.
file_some : (place : ℕ) (before : List ℕ) (f : File) (g : SetFault) → file_fault place before f ≡ Some g → FileFault place before f g
file_some place before f g e = by_tests (ltb max_content (length f.content)) (leb max_files place) (is_good f.path) (comes_before before f.path) refl refl refl refl e
  where
    by_tests : (long full good up : Bool) → ltb max_content (length f.content) ≡ long → leb max_files place ≡ full → is_good f.path ≡ good → comes_before before f.path ≡ up → judged place long full good up ≡ Some g → FileFault place before f g
    by_tests true full good up a b c d e = subst (λ (g : SetFault). FileFault place before f g) (same_Some (BadEntry place) g e) (refl, grind (arith, nat_tests))
    by_tests false true good up a b c d e = subst (λ (g : SetFault). FileFault place before f g) (same_Some TooManyFiles g e) (grind (arith, nat_tests), grind (arith, nat_tests))
    by_tests false false false up a b c d e = subst (λ (g : SetFault). FileFault place before f g) (same_Some (BadPath place) g e) (refl, grind (arith, nat_tests), grind (arith, nat_tests), c)
    by_tests false false true false a b c d e = subst (λ (g : SetFault). FileFault place before f g) (same_Some (OutOfOrder place) g e) (refl, grind (arith, nat_tests), grind (arith, nat_tests), c, d)
    by_tests false false true true a b c d e = absurd cc

file_stands : (place : ℕ) (before : List ℕ) (f : File) (g : SetFault) → FileFault place before f g → file_fault place before f ≡ Some g
file_stands place before f (BadEntry n) (at, long) =
    let a : ltb max_content (length f.content) ≡ true = grind (arith, nat_tests) in
    rw (at, a) refl
file_stands place before f TooManyFiles (short, full) =
    let a : ltb max_content (length f.content) ≡ false = grind (arith, nat_tests) in
    let b : leb max_files place ≡ true = grind (arith, nat_tests) in
    rw (a, b) refl
file_stands place before f (BadPath n) (at, short, room, bad) =
    let a : ltb max_content (length f.content) ≡ false = grind (arith, nat_tests) in
    let b : leb max_files place ≡ false = grind (arith, nat_tests) in
    rw (at, a, b, bad) refl
file_stands place before f (OutOfOrder n) (at, short, room, good, order) =
    let a : ltb max_content (length f.content) ≡ false = grind (arith, nat_tests) in
    let b : leb max_files place ≡ false = grind (arith, nat_tests) in
    rw (at, a, b, good, order) refl
file_stands place before f _ h = absurd h

-- ---- one file after the other

-- files without fault, from this position on, after this path
pub record AreFine (place : ℕ) (before : List ℕ) (files : List File) : Type 0 where
  pub few : place + length files ≤ max_files
  pub each : AllByRecursion Fits files
  pub up : Ascends before files

-- Where no fault is found, the files are fine.
pub from_none : (place : ℕ) (before : List ℕ) (files : List File) → place ≤ max_files → fault_from place before files ≡ None → AreFine place before files
unfolding fault_from
from_none place before [] few e = record { few = omega arith; each = tt; up = tt }
from_none place before (f ∷ fs) few e = by_Option (file_fault place before f)
    (λ is.
    let fine = file_none place before f is in
    let later = from_none (place + 1) f.path fs (let k = fine.room in omega arith) (rw is at e) in
    record { few = (let k = later.few in omega arith); each = (fine.fits, later.each); up = (fine.after, later.up) })
    (λ g is. let wrong = rw is at e in absurd cc)

from_fine : (place : ℕ) (before : List ℕ) (files : List File) → AreFine place before files → fault_from place before files ≡ None
unfolding fault_from
from_fine place before [] fine = refl
from_fine place before (f ∷ fs) fine =
    let k = fine.few in
    let first : IsFine place before f = record { room = omega arith; fits = fine.each.0; after = fine.up.0 } in
    rw (file_fine place before f first) (from_fine (place + 1) f.path fs (record { few = omega arith; each = fine.each.1; up = fine.up.1 }))

-- a fault of a list: files without fault, then one that has it
pub record FaultAt (place : ℕ) (before : List ℕ) (files : List File) (g : SetFault) : Type 0 where
  pub front : List File
  pub file : File
  pub rest : List File
  pub is : files ≡ front ++ file ∷ rest
  pub fine : AreFine place before front
  pub fault : FileFault (place + length front) (last_path before front) file g

from_some : (place : ℕ) (before : List ℕ) (files : List File) (g : SetFault) → place ≤ max_files → fault_from place before files ≡ Some g → FaultAt place before files g
unfolding fault_from
from_some place before [] g few e = absurd cc
from_some place before (f ∷ fs) g few e = by_Option (file_fault place before f)
    (λ is.
    let fine = file_none place before f is in
    let later = from_some (place + 1) f.path fs g (let k = fine.room in omega arith) (rw is at e) in
    let k = later.fine.few in
    let same : place + 1 + length later.front ≡ place + length (f ∷ later.front) = omega arith in
    record {
      front = f ∷ later.front;
      file = later.file;
      rest = later.rest;
      is = ap (λ (t : List File). f ∷ t) later.is;
      fine = record { few = omega arith; each = (fine.fits, later.fine.each); up = (fine.after, later.fine.up) };
      fault = subst (λ (n : ℕ). FileFault n (last_path f.path later.front) later.file g) same later.fault;
    })
    (λ h is.
    let same : place + 0 ≡ place = omega arith in
    let here : file_fault place before f ≡ Some g = is ∙ rw is at e in
    record {
      front = [];
      file = f;
      rest = fs;
      is = refl;
      fine = record { few = omega arith; each = tt; up = tt };
      fault = subst (λ (n : ℕ). FileFault n before f g) (sym same) (file_some place before f g here);
    })

from_stands : (place : ℕ) (before : List ℕ) (front : List File) (file : File) (rest : List File) (g : SetFault) → AreFine place before front → FileFault (place + length front) (last_path before front) file g → fault_from place before (front ++ file ∷ rest) ≡ Some g
unfolding fault_from
from_stands place before [] file rest g fine h =
    let same : place + 0 ≡ place = omega arith in
    rw (file_stands place before file g (subst (λ (n : ℕ). FileFault n before file g) same h)) refl
from_stands place before (f ∷ front) file rest g fine h =
    let k = fine.few in
    let first : IsFine place before f = record { room = omega arith; fits = fine.each.0; after = fine.up.0 } in
    let same : place + length (f ∷ front) ≡ place + 1 + length front = omega arith in
    rw (file_fine place before f first) (from_stands (place + 1) f.path front file rest g (record { few = omega arith; each = fine.each.1; up = fine.up.1 }) (subst (λ (n : ℕ). FileFault n (last_path f.path front) file g) same h))

-- ---- the whole list

front_of : (files : List File) → AreFine 0 [] files → IsFront files
front_of files fine = record { few = (let k = fine.few in omega arith); each = fine.each; ascending = fine.up }

fine_of : (files : List File) → IsFront files → AreFine 0 [] files
fine_of files front = record { few = (let k = front.few in omega arith); each = front.each; up = front.ascending }

from_zero : (n : ℕ) → 0 + n ≡ n
from_zero n = omega arith

-- a fault of one of the files is a fault of the list
of_file : (files : List File) (g : SetFault) → FaultAt 0 [] files g → ListFault files g
of_file files PathClash at = absurd at.fault
of_file files g at = (at.front, at.file, at.rest, at.is, front_of at.front at.fine, subst (λ (place : ℕ). FileFault place (last_path [] at.front) at.file g) (from_zero (length at.front)) at.fault)

list_some : (files : List File) (g : SetFault) → list_fault files ≡ Some g → ListFault files g
list_some files g e = by_Option (fault_from 0 [] files)
    (λ is.
    let clash = some_if (clashes files) (Some PathClash) g (rw is at e) in
    subst (λ (g : SetFault). ListFault files g) (same_Some PathClash g clash.1) (front_of files (from_none 0 [] files (omega arith) is), clash.0))
    (λ h is. of_file files g (from_some 0 [] files g (omega arith) (is ∙ rw is at e)))

listed_stands : (files : List File) (g : SetFault) (front : List File) (f : File) (rest : List File) → files ≡ front ++ f ∷ rest → IsFront front → FileFault (length front) (last_path [] front) f g → list_fault files ≡ Some g
listed_stands files g front f rest is fine h =
    let same : length front ≡ 0 + length front = omega arith in
    let read = ap (fault_from 0 []) is ∙ from_stands 0 [] front f rest g (fine_of front fine) (subst (λ (n : ℕ). FileFault n (last_path [] front) f g) same h) in
    rw read refl

list_stands : (files : List File) (g : SetFault) → ListFault files g → list_fault files ≡ Some g
list_stands files PathClash (fine, clash) = rw (from_fine 0 [] files (fine_of files fine), clash) refl
list_stands files g h = listed_stands files g h.0 h.1 h.2 h.3 h.4 h.5

-- The fault that is computed is the first fault of the list.
pub list_fault_law : (files : List File) (fault : SetFault) → (list_fault files ≡ Some fault) ↔ ListFault files fault
list_fault_law files fault = (list_some files fault, list_stands files fault)

list_none : (files : List File) → list_fault files ≡ None → IsBag files
list_none files e = by_Option (fault_from 0 [] files)
    (λ is.
    let front = front_of files (from_none 0 [] files (omega arith) is) in
    let apart = false_from_ne_true (clashes files) (λ clash. let wrong = rw (is, clash) at e in absurd cc) in
    record { few = front.few; each = front.each; ascending = front.ascending; apart = apart })
    (λ h is. let wrong = rw is at e in absurd cc)

bag_stands : (files : List File) → IsBag files → list_fault files ≡ None
bag_stands files bag = rw (from_fine 0 [] files (fine_of files (record { few = bag.few; each = bag.each; ascending = bag.ascending })), bag.apart) refl

-- None is computed exactly for a bag.
pub list_bag_law : (files : List File) → (list_fault files ≡ None) ↔ IsBag files
list_bag_law files = (list_none files, bag_stands files)
