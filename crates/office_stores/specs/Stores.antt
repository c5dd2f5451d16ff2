-- An office that is made in memory, or opened in a file and closed again.
use Rattle.std.specs.Prelude.{◌≡◌, ◌≢◌, ◌⊎◌, Bool, IsTrue, Result, IsErrAnd, false, true}
use Rattle.sqlite_disk.specs.declared.Disk as disk
use Rattle.sqlite_disk.specs.declared.Files.{Files}
use Rattle.sqlite_wal.specs.Reads.{AreClean}
use Rattle.sqlite.specs.Recovery.{Image}
use Rattle.sqlite.specs.Closing.{IsCopied}
use Rattle.sqlite.specs.Effect.{Database}
use Rattle.sqlite.specs.Files.{AreFoundIn, HoldsDatabase, file_state}
use Rattle.sqlite.specs.Held.{Held, state}
use Rattle.sqlite.specs.State.{State, HasCleanDisk}
use Rattle.sqlite.specs.Store.{Ghosts}
use Rattle.sqlite.specs.Tree.{Trees}
use Rattle.sqlite.specs.declared.FileStore.{FileStore}
use Rattle.office_rows.specs.Rows.{max_limit}
use Rattle.office_tables.specs.Opening.{has_office}
use Rattle.office_contents.specs.Schema.{no_schema}
use Rattle.office_history.specs.Histories.{History}
use Rattle.office_history.specs.Runs.{new_history}
use Rattle.office_tables.specs.Found.{HoldsWhere}
use Rattle.office_contents.specs.declared.version.TableVersion.{TableVersion}
use Rattle.office_engine.specs.Storing.{IsStoredBy, IsLeftAt}
use Rattle.office_stores.specs.Texts.{IsUnclosable, IsUnopenable, found_nothing, is_sought}
use Rattle.office_stores.specs.declared.fault.CommandFault.{CommandFault}

-- the history of an office that was just made
abbrev pub made_office : History
made_office = new_history max_limit max_limit

-- the store holds whichever history was left so, by tables of any known version
abbrev pub GoesOnFrom : (TableVersion → History → Type 0) → State → Type 0
GoesOnFrom Left s = (version : TableVersion) (h : History) → Left version h → IsStoredBy h s

-- An office is had over a connection: it is made there, where `is_new`, and then the database was empty; or it was there. On an honest disk it holds then
-- the new history, or whichever was left there.
pub record IsOfficeOver {S : Type 0} (g : Ghosts S) (conn : Held S) (is_new : Bool) (office : Held S) : Type 0 where
  pub clean : HasCleanDisk (state g office) → HasCleanDisk (state g conn)
  pub empty : is_new ≡ true → (state g conn).now.schema ≢ no_schema → ⊥
  pub made : is_new ≡ true → HasCleanDisk (state g office) → IsStoredBy made_office (state g office)
  pub was_there : is_new ≡ false → HasCleanDisk (state g office) → IsTrue (has_office (state g conn).now.schema)
  pub goes_on : is_new ≡ false → HasCleanDisk (state g office) → GoesOnFrom (λ version h. IsLeftAt version h (state g conn).now.trees) (state g office)

-- ---- in a file

-- files that hold this show this database
pub record Show (image : Image) (shown : Database) : Type 0 where
  pub holds : (db : Trees) → HoldsDatabase image db → shown.trees ≡ db
  pub reads : AreFoundIn image shown.trees

-- An office was opened from files that held this at first. On an honest disk it keeps the history that they held; and they showed a database with the table
-- of an office, or it is one that was just made, where it might be.
pub record IsOpenedFrom {D : Type 0} (g : disk.Ghosts D) (first : Image) (makes : Bool) (office : Held (FileStore D g)) : Type 0 where
  pub found : HasCleanDisk (file_state office) → GoesOnFrom (λ version h. HoldsWhere (IsLeftAt version h) first) (file_state office)
  pub origin : HasCleanDisk (file_state office)
      → ((shown : Database) × Show first shown × IsTrue (has_office shown.schema)) ⊎ ((makes ≡ true) × IsStoredBy made_office (file_state office))

-- No office is had: nothing is there that could be opened, and an office that may be made is never missed; or it can't be opened. `alone` says that the value
-- that opens it is still there.
abbrev pub IsUnhad : Type 0 → Bool → CommandFault → Type 0
IsUnhad alone makes fault = IsUnopenable fault × (((found_nothing fault ≡ true → makes ≡ false) × alone) ⊎ (is_sought fault ≡ false))

-- an office is closed into files, to which all of it is copied on an honest disk, and that leaves the result; or it can't be closed, which is the result
abbrev pub IsClosedAfter : {D T : Type 0} → (g : disk.Ghosts D) → Held (FileStore D g) → Result T CommandFault → Result T CommandFault → Type 0
IsClosedAfter {D} g office done result =
    ((files : Files D) × (AreClean g files.log files.db → IsCopied office files) × (result ≡ done)) ⊎ IsErrAnd result IsUnclosable
