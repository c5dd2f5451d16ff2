-- What comes of a text that was read.
use Rattle.bag_folders.proofs.Common.{◌≡◌, ℕ, List, Option, Some, None, IfSome, sym, subst, Result, Ok, Err, IfErr, IfOk, File, IsFormOf, Failed, CanStop, MakesFiles, IsOfForm, IsUnpacked, IsUnpackedFrom, IsUnpackedFromFile, IsUnreadable, MayBeUnreadable, judged_part, unpack_failed}
use Rattle.std.specs.declared.io.Read.{Ghosts as Reads}
use Rattle.bag_folders.specs.declared.failed.Failed.TheVariants as failures
use Rattle.bag_folders.specs.declared.unpacking.Unpacked.{Unpacked}
use Rattle.bag_folders.specs.declared.unpack_fault.UnpackFault.{UnpackFault}
use Rattle.bag_folders.specs.declared.unpack_fault.UnpackFault.TheVariants.{Set, Size, Exists, Device, Memory}

pub failed_stops : (failed : Failed) → CanStop (unpack_failed failed)
failed_stops (failures.Device trouble) = tt
failed_stops failures.Memory = tt

made_of : (text : List ℕ) (files : List File) (result : Result Unpacked UnpackFault) → IsFormOf files text → MakesFiles files result → IsUnpackedFrom text result
made_of text files (Ok unpacked) form made = (files, form, made)
made_of text files (Err (Set fault other)) form made = absurd made
made_of text files (Err Size) form made = absurd made
made_of text files (Err Exists) form made = (files, form)
made_of text files (Err (Device trouble)) form made = tt
made_of text files (Err Memory) form made = tt

unread_from : (text : List ℕ) (fault : UnpackFault) → IsUnreadable text fault → IsUnpackedFrom text (Err fault)
unread_from text (Set fault other) h = h
unread_from text Size h = h
unread_from text Exists h = absurd h
unread_from text (Device trouble) h = tt
unread_from text Memory h = tt

-- a bag that was read is made, and what is none is refused
pub made_from : (unmade : Type 0) (text : List ℕ) (read : Result (List File) UnpackFault) (result : Result Unpacked UnpackFault) → IfOk read (λ bag. IsFormOf bag text) → IfErr read (IsUnreadable text)
    → IfErr read (λ fault. (result ≡ Err fault) × unmade) → IfOk read (λ bag. MakesFiles bag result) → IsUnpackedFrom text result
made_from unmade text (Ok files) result form refused unread made = made_of text files result form made
made_from unmade text (Err fault) result form refused unread made = subst (λ (r : Result Unpacked UnpackFault). IsUnpackedFrom text r) (sym unread.0) (unread_from text fault refused)

-- the text is what was judged of a file, where that is known
pub judged_from : (known : Option (List ℕ)) (text : List ℕ) (result : Result Unpacked UnpackFault) → IfSome known (λ given. text ≡ judged_part given) → IsUnpackedFrom text result
    → IfSome known (λ given. IsUnpackedFrom (judged_part given) result)
judged_from None text result read from = tt
judged_from (Some given) text result read from = subst (λ (t : List ℕ). IsUnpackedFrom t result) read from

-- and else it is some text
pub some_unpacked : (text : List ℕ) (result : Result Unpacked UnpackFault) → IsUnpackedFrom text result → IfOk result IsUnpacked
some_unpacked text (Ok unpacked) from = (from.0, text, from.1, from.2)
some_unpacked text (Err fault) from = tt

some_refused : (text : List ℕ) (fault : UnpackFault) → IsUnpackedFrom text (Err fault) → MayBeUnreadable fault
some_refused text (Set fault other) from = (text, from)
some_refused text Size from = (text, from)
some_refused text Exists from = tt
some_refused text (Device trouble) from = tt
some_refused text Memory from = (text, tt)

pub some_unreadable : (text : List ℕ) (result : Result Unpacked UnpackFault) → IsUnpackedFrom text result → IfErr result MayBeUnreadable
some_unreadable text (Ok unpacked) from = tt
some_unreadable text (Err fault) from = some_refused text fault from

-- a form that is refused is told of where nothing is made
stops : (fault : UnpackFault) → CanStop fault → IsOfForm fault → ⊥
stops (Set fault other) stop form = stop
stops Size stop form = stop
stops _ stop form = form

pub unmade_from : (unmade : Type 0) (read : Result (List File) UnpackFault) (result : Result Unpacked UnpackFault) → IfErr read (λ fault. (result ≡ Err fault) × unmade) → IfOk read (λ bag. MakesFiles bag result)
    → IfErr result (λ fault. IsOfForm fault → unmade)
unmade_from unmade read (Ok unpacked) unread made = tt
unmade_from unmade (Ok files) (Err fault) unread made = λ form. absurd (stops fault made form)
unmade_from unmade (Err other) (Err fault) unread made = λ form. unread.1

-- what comes of a file that was opened
pub of_file : {F : Type 0} (reads : Reads F) (file : F) (result : Result Unpacked UnpackFault) → IfSome (reads.remaining file) (λ given. IsUnpackedFrom (judged_part given) result) → IsUnpackedFromFile reads result
of_file reads file (Err (Device trouble)) judged = tt
of_file reads file (Err Memory) judged = tt
of_file reads file _ judged = (file, judged)

pub of_none : {F : Type 0} (reads : Reads F) (failed : Failed) → IsUnpackedFromFile reads (Err (unpack_failed failed))
of_none reads (failures.Device trouble) = tt
of_none reads failures.Memory = tt
