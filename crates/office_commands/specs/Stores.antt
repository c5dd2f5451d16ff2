-- What is done with an office that is made in memory, or opened in a file and closed again.
use Rattle.std.specs.Prelude.{◌≡◌, ◌≢◌, ◌⊎◌, ℕ, List, Bool, Result, IsErrAnd, false, true, codes}
use Rattle.sqlite_disk.specs.declared.Disk as disk
use Rattle.sqlite_disk.specs.declared.Files.{Files}
use Rattle.sqlite_wal.specs.Reads.{AreClean}
use Rattle.sqlite.specs.Recovery.{Image}
use Rattle.sqlite.specs.Closing.{IsCopied}
use Rattle.sqlite.specs.Files.{over_files}
use Rattle.sqlite.specs.Held.{Held, state}
use Rattle.sqlite.specs.Steps.{over_memory}
use Rattle.sqlite.specs.declared.FileStore.{FileStore}
use Rattle.sqlite.specs.declared.MemStore.{MemStore}
use Rattle.office_history.specs.Histories.{History}
use Rattle.office_history.specs.Runs.{IsLegal}
use Rattle.office_tables.specs.Found.{HoldsWhere}
use Rattle.office_engine.specs.Storing.{IsStoredBy, IsLeftOf}
use Rattle.office_commands.specs.Deeds.{AreDone, Deed, LeadOn}
use Rattle.office_commands.specs.Tasks.{ComesOfTask, Task, makes_office}
use Rattle.office_commands.specs.Traffic.{Upshot}
use Rattle.office_stores.specs.Stores.{IsOpenedFrom, made_office}
use Rattle.office_stores.specs.Texts.{IsUnclosable, IsUnopenable, found_nothing, is_sought}
use Rattle.office_stores.specs.declared.fault.CommandFault.{CommandFault}

-- ---- in memory

-- the deeds are done with an office that was just made in memory
pub record InMemory (deeds : List Deed) : Type 0 where
  pub old : Held MemStore
  pub new : Held MemStore
  pub made : IsStoredBy made_office (state over_memory old)
  pub done : AreDone over_memory deeds old new

-- ---- in a file

-- the deeds are done with an open office, and it is closed into these files: on an honest disk all of it is copied
pub record AreDoneAndClosed {D : Type 0} (g : disk.Ghosts D) (deeds : List Deed) (old : Held (FileStore D g)) (files : Files D) : Type 0 where
  pub new : Held (FileStore D g)
  pub done : AreDone over_files deeds old new
  pub copied : AreClean g files.log files.db → IsCopied new files

-- the same, of an office that was opened from files that held this at first
pub record InFile {D : Type 0} (g : disk.Ghosts D) (first : Image) (makes : Bool) (deeds : List Deed) : Type 0 where
  pub old : Held (FileStore D g)
  pub opened : IsOpenedFrom g first makes old
  pub files : Files D
  pub closed : AreDoneAndClosed g deeds old files

-- the history leads by the deeds to one that files hold
abbrev pub LeadsInto : List Deed → History → Image → Type 0
LeadsInto deeds h image = (next : History) × LeadOn deeds h next × IsLegal next × HoldsWhere (IsLeftOf next) image

-- ---- a task

-- a store: its name, and what its files held at first
pub record NamedStore : Type 0 where
  pub name : List ℕ
  pub first : Image

-- There is nothing that could be opened as the store, so that nothing is opened, read or written. A task with which an office is made is never refused because
-- nothing is there.
abbrev pub IsUnfound : {T : Type 0} → Type 0 → Task → Upshot T → Type 0
IsUnfound alone task upshot =
    IsErrAnd upshot.result (λ fault. IsUnopenable fault × (found_nothing fault ≡ true → makes_office task ≡ false) × alone × (upshot.now ≡ upshot.was))

-- the store could not be opened, and nothing is read or written
abbrev pub IsUnopened : {T : Type 0} → Upshot T → Type 0
IsUnopened upshot = IsErrAnd upshot.result (λ fault. IsUnopenable fault × (is_sought fault ≡ false) × (upshot.now ≡ upshot.was))

-- the task is done so with an open office, but the store could not be closed, which is what is reported, however the task ended
pub record IsUnclosed {D T : Type 0} (g : disk.Ghosts D) (old : Held (FileStore D g)) (task : Task) (upshot : Upshot T) : Type 0 where
  pub failed : IsErrAnd upshot.result IsUnclosable
  pub did : Result T CommandFault
  pub deeds : List Deed
  pub does : ComesOfTask task (record upshot { result = did }) deeds
  pub new : Held (FileStore D g)
  pub done : AreDone over_files deeds old new

-- the task is done with a new office in memory
abbrev pub RunsInMemory : {T : Type 0} → Task → Upshot T → Type 0
RunsInMemory task upshot = IsUnopened upshot ⊎ ((deeds : List Deed) × ComesOfTask task upshot deeds × InMemory deeds)

-- the task is done with an open office, and it is closed
abbrev pub RunsAndCloses : {D T : Type 0} → (g : disk.Ghosts D) → Held (FileStore D g) → Task → Upshot T → Type 0
RunsAndCloses {D} g old task upshot =
    ((deeds : List Deed) × (files : Files D) × ComesOfTask task upshot deeds × AreDoneAndClosed g deeds old files) ⊎ IsUnclosed g old task upshot

-- the task is done with the office in a file
abbrev pub RunsInFile : {D T : Type 0} → disk.Ghosts D → Image → Task → Upshot T → Type 0
RunsInFile {D} g first task upshot =
    IsUnopened upshot
    ⊎ (((deeds : List Deed) × ComesOfTask task upshot deeds × InFile g first (makes_office task) deeds)
    ⊎ ((old : Held (FileStore D g)) × IsOpenedFrom g first (makes_office task) old × IsUnclosed g old task upshot))

-- Over `:memory:` it is the one, and no file is opened. Else it is the other, where a file is found that may be opened. `alone` says that the value that opens
-- the store is still there.
abbrev pub RunsOn : {D T : Type 0} → disk.Ghosts D → NamedStore → Type 0 → Task → Upshot T → Type 0
RunsOn g store alone task upshot =
    (store.name ≡ codes ":memory:" → alone × RunsInMemory task upshot)
    × (store.name ≢ codes ":memory:" → IsUnfound alone task upshot ⊎ RunsInFile g store.first task upshot)
