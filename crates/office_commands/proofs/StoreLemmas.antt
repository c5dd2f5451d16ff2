-- What is done with an office over a store is done on the store: in memory, or in a file.
use Rattle.office_commands.proofs.Common.{◌≡◌, List, Bool, true, false, Result, Err, ◌⊎◌, inl, inr, subst, sym, refl, Image, image_of, file_state, over_files, Held, state, FileStore, History, IsLegal, new, HoldsWhere, IsStoredBy, IsLeftAt, IsLegalAndStored, TableVersion, Deed, LeadOn, InFile, InMemory, IsClosedAfter, IsOpenedFrom, IsUnfound, IsUnhad, LeadsInto, RunsInFile, RunsInMemory, made_office, DoesTask, Task, makes_office, LoggedTraffic, Upshot, CommandFault}
use Rattle.sqlite_disk.specs.declared.Disk.{Ghosts as Disks}
use Rattle.sqlite_wal.specs.Reads.{AreClean}
use Rattle.sqlite.specs.Steps.{over_memory}
use Rattle.sqlite.specs.declared.MemStore.{MemStore}
use Rattle.sqlite.proofs.Callers.{memory_is_clean}
use Rattle.office_rows.specs.Rows.{max_limit}
use Rattle.office_stores.proofs.FileLemmas.{held_of}
use Rattle.office_stores.specs.Texts.{IsUnopenable, found_nothing, is_sought}
use Rattle.office_commands.proofs.DeedLemmas.{deeds_clean, deeds_lead}

-- the upshot of this result, with the traffic before and after
abbrev pub upshot : {T : Type 0} → Result T CommandFault → LoggedTraffic → LoggedTraffic → Upshot T
upshot result was now = record { result = result; was = was; now = now }

made_is_legal : IsLegal made_office
made_is_legal = new max_limit max_limit refl refl

-- with an office that was just made in memory
pub runs_in_memory : {T : Type 0} (r : Result T CommandFault) (task : Task) (first last : Held MemStore) (was now : LoggedTraffic) → IsStoredBy made_office (state over_memory first)
    → DoesTask over_memory task (upshot r was now) first last → RunsInMemory task (upshot r was now)
runs_in_memory r task first last was now made it = inr (it.0, it.1, record { old = first; new = last; made = made; done = it.2 })

-- what it comes to
pub memory_leads : (deeds : List Deed) (office : InMemory deeds) → (next : History) × LeadOn deeds made_office next × IsLegalAndStored next (state over_memory office.new)
memory_leads deeds office = deeds_lead over_memory deeds office.old office.new office.done (memory_is_clean office.new) made_office made_is_legal office.made

-- what the files hold then
pub files_lead : {D : Type 0} (g : Disks D) (first : Image) (makes : Bool) (deeds : List Deed) (office : InFile g first makes deeds) → AreClean g office.files.log office.files.db
    → (version : TableVersion) (h : History) → IsLegal h → HoldsWhere (IsLeftAt version h) first → LeadsInto deeds h (image_of g office.files)
files_lead g first makes deeds office clean version h legal holds =
    let closed = office.closed in
    let it = closed.copied clean in
    let kept = office.opened.found (deeds_clean over_files deeds office.old closed.new closed.done it.was_clean) version h holds in
    let at = deeds_lead over_files deeds office.old closed.new closed.done it.was_clean h legal kept in
    (at.0, at.1, at.2.legal, held_of (image_of g office.files) (file_state closed.new) it.was_open it.seen.both at.0 at.2)

-- no office is had, and nothing is read or written
unhad_as : {D T : Type 0} (g : Disks D) (first : Image) (alone : Type 0) (task : Task) (fault : CommandFault) (was : LoggedTraffic) → IsUnopenable fault
    → ((found_nothing fault ≡ true → makes_office task ≡ false) × alone) ⊎ (is_sought fault ≡ false)
    → IsUnfound {T = T} alone task (upshot (Err fault) was was) ⊎ RunsInFile {T = T} g first task (upshot (Err fault) was was)
unhad_as g first alone task fault was failed (inl nothing) = inl (failed, nothing.0, nothing.1, refl)
unhad_as g first alone task fault was failed (inr sought) = inr (inl (failed, sought, refl))

pub unhad : {D T : Type 0} (g : Disks D) (first : Image) (alone : Type 0) (makes : Bool) (task : Task) (fault : CommandFault) (was : LoggedTraffic) → makes ≡ makes_office task → IsUnhad alone makes fault
    → IsUnfound {T = T} alone task (upshot (Err fault) was was) ⊎ RunsInFile {T = T} g first task (upshot (Err fault) was was)
unhad {T = T} g first alone makes task fault was same it =
    let told : IsUnhad alone (makes_office task) fault = subst (λ (b : Bool). IsUnhad alone b fault) same it in unhad_as {T = T} g first alone task fault was told.0 told.1

-- with an office that was opened from files, and is closed then
runs_opened : {D T : Type 0} (g : Disks D) (first : Image) (done r : Result T CommandFault) (task : Task) (old last : Held (FileStore D g)) (was now : LoggedTraffic) → IsOpenedFrom g first (makes_office task) old
    → DoesTask over_files task (upshot done was now) old last → IsClosedAfter g last done r → RunsInFile g first task (upshot r was now)
runs_opened {T = T} g first done r task old last was now opened it (inl closed) =
    subst (λ (x : Result T CommandFault). RunsInFile g first task (upshot x was now)) (sym closed.2) (inr (inl (
      it.0,
      it.1,
      record {
        old = old;
        opened = opened;
        files = closed.0;
        closed = record { new = last; done = it.2; copied = closed.1 };
      },
    )))
runs_opened g first done r task old last was now opened it (inr failed) =
    inr (inr (old, opened, record { failed = failed; did = done; deeds = it.0; does = it.1; new = last; done = it.2 }))

pub runs_in_file : {D T : Type 0} (g : Disks D) (first : Image) (makes : Bool) (done r : Result T CommandFault) (task : Task) (old last : Held (FileStore D g)) (was now : LoggedTraffic) → makes ≡ makes_office task
    → IsOpenedFrom g first makes old → DoesTask over_files task (upshot done was now) old last → IsClosedAfter g last done r → RunsInFile g first task (upshot r was now)
runs_in_file g first makes done r task old last was now same opened it closed =
    runs_opened g first done r task old last was now (subst (λ (b : Bool). IsOpenedFrom g first b old) same opened) it closed
