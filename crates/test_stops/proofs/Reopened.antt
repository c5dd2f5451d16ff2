-- An office whose files are opened again.
use Rattle.test_stops.proofs.Common.{◌≡◌, ℤ, IsTrue, sym, ap, subst, ◌∙◌, arith, ∥∥₁_map, Image, Trees, State, HasCleanDisk}
use Rattle.sqlite_disk.specs.declared.Disk.{Ghosts}
use Rattle.sqlite.specs.declared.FileStore.{FileStore}
use Rattle.sqlite_store.specs.FileStore.{state, view, recovers}
use Rattle.sqlite.specs.State.{Survives, Opens}
use Rattle.sqlite.specs.Held.{AreDatabases}
use Rattle.sqlite.specs.Effect.{Database}
use Rattle.sqlite.specs.Files.{HoldsDatabase}
use Rattle.sqlite.proofs.Theorems.{opens_again}
use Rattle.office_tables.specs.Opening.{HasVersion, HasSameTables}
use Rattle.office_tables.specs.Found.{GoesOnAs, HoldsWhere, PicksUp}

-- what is so of all trees that a crash may leave of a store is so of what each image that it may leave holds
pub holds_left : {D : Type 0} {g : Ghosts D} (it : FileStore D g) → IsTrue (view it).is_numbered → AreDatabases (recovers it) → (P : Trees → Type 0) → ((db : Trees) → recovers it db → P db)
    → (image : Image) → (state it).may_leave image → HoldsWhere P image
holds_left it numbered sound P all image may = ∥∥₁_map (opens_again it numbered sound image may) (λ found. (found.0, all found.0 found.1, found.2))

-- where the disk is clean after a call it was before
clean_before : (first last : State) → Survives first last (λ _. ⊥) → HasCleanDisk last → HasCleanDisk first
clean_before first last survives clean = omega (arith, survives.clean, clean)

-- a connection picks up the database whose trees the files hold
pub picks_up : (image : Image) (first last : State) → Survives first last (λ _. ⊥) → (HasCleanDisk first → (db : Trees) → HoldsDatabase image db → first.committed.trees ≡ db) → (HasCleanDisk first → Opens first)
    → (HasCleanDisk last → GoesOnAs first last) → HasCleanDisk last → PicksUp image last
picks_up image first last survives finds opens on clean left held db whole is =
    let early = clean_before first last survives clean in
    on clean db whole (ap (λ (d : Database). d.trees) (opens early).clean ∙ finds early left held ∙ is)

-- and shows the version that it was found to have
pub shows_version : (first last : State) (version : ℤ) → (HasCleanDisk last → HasSameTables first last) → (HasCleanDisk last → HasVersion first.now version) → HasCleanDisk last → IsTrue last.is_open → HasVersion last.now version
shows_version first last version kept has clean is_open = subst (λ (d : Database). HasVersion d version) (sym (kept clean is_open).1) (has clean)
