-- What a call inside a transaction does to its connection, and what it says of the rows. `old` is the connection before it and `new`
-- the connection after it. What is said of rows is said of Ok, where the disk is honest and the database was an office's: both are
-- premises.
use Rattle.std.specs.Prelude.{Result, IfOk, IfErr, OnOk, ◌≡◌, ◌⊎◌, ℕ, List, false}
use Rattle.std.specs.Borrow.{MutBor}
use Rattle.sqlite.specs.Store.{Ghosts}
use Rattle.sqlite.specs.Order.{Row}
use Rattle.sqlite.specs.State.{FailsToQuery, HasCleanDisk, IsTooLate, State}
use Rattle.sqlite.specs.declared.error.Error.TheVariants.{SqliteFailure}
use Rattle.sqlite.specs.declared.error.ErrorCode.TheVariants.{OutOfMemory}
use Rattle.sqlite.specs.Held.{Held, state}
use Rattle.sql_meaning.specs.Inside.{Stays, GoesOn, GoesOnIfAny}
use Rattle.office_rows.specs.Rows.{Tables}
use Rattle.office_contents.specs.Faults.{IsFailure, IsStoreUnless}
use Rattle.office_contents.specs.declared.fault.TableFault.{TableFault}
use Rattle.office_contents.specs.Tables.{IsOffice, Becomes, tables_of}

-- ---- the connection

-- on each exit: nothing is committed, and a crash leaves what it could leave before
abbrev pub CommitsNothing : {S : Type 0} → Ghosts S → Held S → Held S → Type 0
CommitsNothing g old new = Stays (state g old) (state g new)

-- on Ok the transaction goes on
abbrev pub Continues : {S T E : Type 0} → Ghosts S → Held S → Held S → Result T E → Type 0
Continues g old new result = HasCleanDisk (state g new) → OnOk result (GoesOn (state g old) (state g new))

-- the same of calls in turn, of which there may be none
abbrev pub ContinuesInTurn : {S T E : Type 0} → Ghosts S → Held S → Held S → Result T E → Type 0
ContinuesInTurn g old new result = HasCleanDisk (state g new) → OnOk result (GoesOnIfAny (state g old) (state g new))

-- what each call inside a transaction keeps, and how it fails
pub record GoesOnInside {S T : Type 0} (g : Ghosts S) (old new : MutBor (Held S)) (result : Result T TableFault) : Type 0 where
  pub same_reference : new.ghost_name ≡ old.ghost_name
  pub stays : CommitsNothing g old.now new.now
  pub goes_on : Continues g old.now new.now result
  pub failure : IfErr result IsFailure

-- the same of calls in turn, of which there may be none
pub record GoesOnInTurn {S T : Type 0} (g : Ghosts S) (old new : MutBor (Held S)) (result : Result T TableFault) : Type 0 where
  pub same_reference : new.ghost_name ≡ old.ghost_name
  pub stays : CommitsNothing g old.now new.now
  pub goes_on : ContinuesInTurn g old.now new.now result
  pub failure : IfErr result IsFailure

-- ---- where the store fails

-- a query failed since memory ran out in the store
abbrev pub RunsOut : List ℕ → Row → State → State → Type 0
RunsOut sql params old new = FailsToQuery sql params old new (SqliteFailure OutOfMemory) ⊎ IsTooLate sql params old new (SqliteFailure OutOfMemory)

-- the fault is `Store`; it is `Memory` only where memory ran out in the store, which undid the transaction
abbrev pub IsOfStore : {S : Type 0} → Ghosts S → Held S → TableFault → Type 0
IsOfStore g new = IsStoreUnless ((state g new).in_transaction ≡ false)

-- where the call fails, it is so
abbrev pub FailsInStore : {S T : Type 0} → Ghosts S → Held S → Held S → Result T TableFault → Type 0
FailsInStore g old new result = HasCleanDisk (state g new) → IsOffice (state g old).now → IfErr result (IsOfStore g new)

-- ---- the rows

-- no row has changed
abbrev pub Keeps : {S T E : Type 0} → Ghosts S → Held S → Held S → Result T E → Type 0
Keeps g old new result = HasCleanDisk (state g new) → IsOffice (state g old).now → OnOk result ((state g new).now ≡ (state g old).now)

-- this is so of the rows before and of what is answered
abbrev pub Tells : {S T E : Type 0} → Ghosts S → Held S → Held S → Result T E → (Tables → T → Type 0) → Type 0
Tells g old new result is_so = HasCleanDisk (state g new) → IsOffice (state g old).now → IfOk result (is_so (tables_of (state g old).now))

-- no row has changed, and this is so of the rows and of what is answered
abbrev pub Shows : {S T E : Type 0} → Ghosts S → Held S → Held S → Result T E → (Tables → T → Type 0) → Type 0
Shows g old new result is_so =
    HasCleanDisk (state g new) → IsOffice (state g old).now → IfOk result (λ shown. ((state g new).now ≡ (state g old).now) × is_so (tables_of (state g old).now) shown)

-- an office again, whose rows are what this makes of the rows before
abbrev pub Writes : {S T E : Type 0} → Ghosts S → Held S → Held S → Result T E → (Tables → Tables) → Type 0
Writes g old new result next = HasCleanDisk (state g new) → IsOffice (state g old).now → OnOk result (Becomes (state g new).now (next (tables_of (state g old).now)))
