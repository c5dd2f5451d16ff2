-- Which of its faults a call may answer.
use Rattle.std.specs.Prelude.{⊤, ◌≡◌, ◌↔◌}
use Rattle.sqlite.specs.declared.error.Error.{Error}
use Rattle.sqlite.specs.declared.error.Error.TheVariants.{SqliteFailure}
use Rattle.sqlite.specs.declared.error.ErrorCode.TheVariants.{OutOfMemory}
use Rattle.office_contents.specs.declared.fault.TableFault.{TableFault}
use Rattle.office_contents.specs.declared.fault.TableFault.TheVariants.{NotAnOffice, OtherVersion, Memory, Store}

-- that memory ran out, or a failure of the store; it says nothing of what the database is
abbrev pub IsFailure : TableFault → Type 0
IsFailure NotAnOffice = ⊥
IsFailure OtherVersion = ⊥
IsFailure Memory = ⊤
IsFailure Store = ⊤

-- the fault is `Store`; it is `Memory` only where this is so
abbrev pub IsStoreUnless : Type 0 → TableFault → Type 0
IsStoreUnless wanting NotAnOffice = ⊥
IsStoreUnless wanting OtherVersion = ⊥
IsStoreUnless wanting Memory = wanting
IsStoreUnless wanting Store = ⊤

-- an error of the store is that memory ran out exactly where the store says so, and else a failure of the store
pub record IsToldAs (error : Error) (fault : TableFault) : Type 0 where
  pub failure : IsFailure fault
  pub memory : (fault ≡ Memory) ↔ (error ≡ SqliteFailure OutOfMemory)
