-- Judging files by their paths and sizes, step by step as the code does.
use Rattle.std.specs.Prelude.{◌≡◌, ℕ, Bool, [], Option, Some, None, Result, Ok, Err, nat_lt, string_bytes}
use Rattle.bag_text.specs.TransferForm.{File, max_content}
use Rattle.bag_text.specs.declared.set_fault.SetFault.{SetFault}
use Rattle.bag_text.specs.declared.set_fault.SetFault.TheVariants.{BadEntry, PathClash, Memory}
use Rattle.bag_folders.specs.declared.listed.Listed.{Listed}

-- a file without its content
abbrev pub emptied : Listed → File
emptied l = record { path = string_bytes l.path; content = [] }

-- too long for a bag
abbrev pub is_too_long : Listed → Bool
is_too_long l = nat_lt max_content l.size

-- the fault is found, unless memory ran out
abbrev pub IsFaultFound : {X : Type 0} → Option SetFault → Result X SetFault → Type 0
IsFaultFound fault (Ok x) = fault ≡ None
IsFaultFound fault (Err Memory) = Unit {0}
IsFaultFound fault (Err found) = fault ≡ Some found

-- what is found where the file at this position is too long, and that is found of those before it: names
-- clash last
abbrev pub with_long : {X : Type 0} → ℕ → Result X SetFault → Result X SetFault
with_long position (Ok x) = Err (BadEntry position)
with_long position (Err PathClash) = Err (BadEntry position)
with_long position (Err fault) = Err fault
