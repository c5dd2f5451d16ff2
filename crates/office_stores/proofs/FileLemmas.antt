-- An office that is made in memory or found in files, and copied into them.
use Rattle.office_stores.proofs.Common.{◌≡◌, ◌≢◌, ◌∙◌, List, [], ◌∷◌, Bool, Result, Ok, Err, IfOk, IfErr, IsErr, IsTrue, true, false, inl, inr, refl, sym, ap, subst, Image, State, HasCleanDisk, Opens, IsLive, FindsIn, AreFoundIn, HoldsDatabase, file_state, Held, state, Ghosts, FileStore, TableVersion, History, HoldsWhere, PicturesAt, IsStoredBy, IsLeftAt, IsLeftOf, IsLegalAndStored, GoesOnFrom, IsClosedAfter, IsOfficeOver, IsOpenedFrom, IsUnhad, made_office, over_files, IsOpened, CommandFault, IsUnopenable, is_sought}
use Rattle.std.proofs.Math.Logic.{∥∥₁_map}
use Rattle.sqlite.specs.Schema.{Schema}
use Rattle.sqlite.specs.Table.{Table}
use Rattle.sqlite.specs.Effect.{Database, IsDatabase}
use Rattle.std.proofs.lemmas.Bool.{cases_Bool}
use Rattle.sqlite.specs.Steps.{over_memory}
use Rattle.sqlite.specs.declared.MemStore.{MemStore}
use Rattle.sqlite.proofs.Callers.{memory_is_clean}
use Rattle.sqlite_disk.specs.declared.Disk.{Ghosts as Disks}
use Rattle.sqlite_disk.specs.declared.Files.{Files}
use Rattle.sqlite_wal.specs.Reads.{AreClean}
use Rattle.sqlite.specs.Closing.{IsCopied}
use Rattle.office_tables.specs.Opening.{has_office}
use Rattle.office_contents.specs.Schema.{no_schema}
use Rattle.office_contents.specs.Versions.{schema_at}
use Rattle.office_contents.specs.declared.version.TableVersion.TheVariants.{Third}
use Rattle.office_tables.proofs.FoundAgain.{found_again}
use Rattle.office_tables.proofs.Settled.{office_from, rows_from, once_from}

-- what is left of a history comes out of a truncation, where a database is found
left_from : (version : TableVersion) (h : History) (db : Database) → IsDatabase db → ∥ IsLeftAt version h db.trees ∥₁ → IsLeftAt version h db.trees
left_from version h db listed left =
    let pictured : ∥ PicturesAt version h db ∥₁ = ∥∥₁_map left (λ it. found_again (PicturesAt version h) it.0 db it.1.office.whole.listed listed it.2 it.1) in (
      db,
      record {
        office = office_from version db listed (∥∥₁_map pictured (λ p. p.office));
        are = rows_from _ _ (∥∥₁_map pictured (λ p. p.are));
        once = once_from db (∥∥₁_map pictured (λ p. p.once));
      },
      refl,
    )

-- an open of files that hold an office shows what is left of it
pub found_of : (image : Image) (s : State) → Opens s → IsLive s → FindsIn image s → (version : TableVersion) (h : History) → HoldsWhere (IsLeftAt version h) image → IsLeftAt version h s.now.trees
found_of image s opens live finds version h holds =
    let shown : s.now.trees ≡ s.committed.trees = ap (λ (d : Database). d.trees) opens.clean in
    let found : ∥ IsLeftAt version h s.now.trees ∥₁ = ∥∥₁_map holds (λ d. subst (IsLeftAt version h) (sym (shown ∙ finds.holds d.0 d.2)) d.1) in
    left_from version h s.now (live opens.is_open).0 found

some_tables : (x : Table) (xs : List Table) → x ∷ xs ≡ [] → ⊥
some_tables x xs same = cc

no_office : (version : TableVersion) → schema_at version ≢ no_schema
no_office Third same = some_tables _ _ (ap (λ (s : Schema). s.tables) same)
no_office _ same = some_tables _ _ (ap (λ (s : Schema). s.tables) same)

-- what shows an office isn't empty
pub shows_more : (s : State) → IsLive s → IsTrue s.is_open → (version : TableVersion) (h : History) → IsLeftAt version h s.now.trees → s.now.schema ≢ no_schema
shows_more s live is_open version h left same =
    let it = found_again (PicturesAt version h) left.0 s.now left.1.office.whole.listed (live is_open).0 left.2 left.1 in no_office version (sym it.office.whole.schema_is ∙ same)

-- what the files hold that a connection was copied into
pub held_of : (image : Image) (s : State) → IsTrue s.is_open → ∥ HoldsDatabase image s.committed.trees ∥₁ → (next : History) → IsLegalAndStored next s → HoldsWhere (IsLeftOf next) image
held_of image s is_open holds next reached =
    let kept = reached.kept is_open in
    ∥∥₁_map holds (λ d. (s.committed.trees, (s.now, kept.0, ap (λ (x : Database). x.trees) kept.1), d))

-- ---- opened

-- an office that is made is made where the files hold none
pub made_where_none : {A E : Type 0} (r : Result A E) (shown : A → State) (image : Image) (s : State) → IfOk r (λ o. HasCleanDisk (shown o) → HasCleanDisk s) → (s.now.schema ≢ no_schema → IsErr r)
    → (HasCleanDisk s → Opens s × IsLive s) → (HasCleanDisk s → FindsIn image s)
    → IfOk r (λ o. HasCleanDisk (shown o) → GoesOnFrom (λ version h. HoldsWhere (IsLeftAt version h) image) (shown o))
made_where_none (Err e) shown image s cleans empty opened found = tt
made_where_none (Ok o) shown image s cleans empty opened found = λ clean version h holds.
    let was = cleans clean in
    let left = found_of image s (opened was).0 (opened was).1 (found was) version h holds in
    let never : false ≡ true = empty (shows_more s (opened was).1 (opened was).0.is_open version h left) in
    absurd (cc)

-- one that is taken is the one that they hold
pub taken_as_held : {A E : Type 0} (r : Result A E) (shown : A → State) (image : Image) (s : State) → IfOk r (λ o. HasCleanDisk (shown o) → HasCleanDisk s)
    → IfOk r (λ o. HasCleanDisk (shown o) → GoesOnFrom (λ version h. IsLeftAt version h s.now.trees) (shown o))
    → (HasCleanDisk s → Opens s × IsLive s) → (HasCleanDisk s → FindsIn image s)
    → IfOk r (λ o. HasCleanDisk (shown o) → GoesOnFrom (λ version h. HoldsWhere (IsLeftAt version h) image) (shown o))
taken_as_held (Err e) shown image s cleans goes_on opened found = tt
taken_as_held (Ok o) shown image s cleans goes_on opened found = λ clean version h holds.
    let was = cleans clean in goes_on clean version h (found_of image s (opened was).0 (opened was).1 (found was) version h holds)

-- an office that is made, where one may be made
pub opened_as_made : {D E : Type 0} (g : Disks D) (r : Result (Held (FileStore D g)) E) (image : Image) (s : State) (makes : Bool) → makes ≡ true
    → IfOk r (λ o. HasCleanDisk (file_state o) → HasCleanDisk s) → IfOk r (λ o. HasCleanDisk (file_state o) → IsStoredBy made_office (file_state o)) → (s.now.schema ≢ no_schema → IsErr r)
    → (HasCleanDisk s → Opens s × IsLive s) → (HasCleanDisk s → FindsIn image s) → IfOk r (IsOpenedFrom g image makes)
opened_as_made g (Err e) image s makes may cleans made empty opened found = tt
opened_as_made {E = E} g (Ok o) image s makes may cleans made empty opened found = record {
  found = made_where_none {E = E} (Ok o) file_state image s cleans empty opened found;
  origin = λ clean. inr (may, made clean);
}

-- one that is taken was there
pub opened_as_taken : {D E : Type 0} (g : Disks D) (r : Result (Held (FileStore D g)) E) (image : Image) (s : State) (makes : Bool)
    → IfOk r (λ o. HasCleanDisk (file_state o) → HasCleanDisk s) → IfOk r (λ o. HasCleanDisk (file_state o) → GoesOnFrom (λ version h. IsLeftAt version h s.now.trees) (file_state o))
    → IfOk r (λ o. HasCleanDisk (file_state o) → IsTrue (has_office s.now.schema))
    → (HasCleanDisk s → Opens s × IsLive s) → (HasCleanDisk s → FindsIn image s) → IfOk r (IsOpenedFrom g image makes)
opened_as_taken g (Err e) image s makes cleans goes_on there opened found = tt
opened_as_taken {E = E} g (Ok o) image s makes cleans goes_on there opened found = record {
  found = taken_as_held {E = E} (Ok o) file_state image s cleans goes_on opened found;
  origin = λ clean.
      let was = cleans clean in
      let same : s.now.trees ≡ s.committed.trees = ap (λ (d : Database). d.trees) (opened was).0.clean in
      inl (s.now, record { holds = λ db held. same ∙ (found was).holds db held; reads = subst (AreFoundIn image) (sym same) (found was).reads }, there clean);
}

-- ---- an office of a connection

pub made_is_office : {S E : Type 0} (g : Ghosts S) (conn : Held S) (is_new : Bool) (r : Result (Held S) E) → is_new ≡ true → IfOk r (λ o. HasCleanDisk (state g o) → HasCleanDisk (state g conn))
    → IfOk r (λ o. HasCleanDisk (state g o) → IsStoredBy made_office (state g o)) → ((state g conn).now.schema ≢ no_schema → IsErr r) → IfOk r (IsOfficeOver g conn is_new)
made_is_office g conn is_new (Err e) new clean made empty = tt
made_is_office g conn is_new (Ok o) new clean made empty = record {
  clean = clean;
  empty = λ _ more. let never : false ≡ true = empty more in absurd (cc);
  made = λ _. made;
  was_there = λ isnt. let never : true ≡ false = sym new ∙ isnt in absurd (cc);
  goes_on = λ isnt. let never : true ≡ false = sym new ∙ isnt in absurd (cc);
}

pub taken_is_office : {S E : Type 0} (g : Ghosts S) (conn : Held S) (is_new : Bool) (r : Result (Held S) E) → is_new ≡ false → IfOk r (λ o. HasCleanDisk (state g o) → HasCleanDisk (state g conn))
    → IfOk r (λ o. HasCleanDisk (state g o) → GoesOnFrom (λ version h. IsLeftAt version h (state g conn).now.trees) (state g o)) → IfOk r (λ o. HasCleanDisk (state g o) → IsTrue (has_office (state g conn).now.schema))
    → IfOk r (IsOfficeOver g conn is_new)
taken_is_office g conn is_new (Err e) there clean goes_on was_there = tt
taken_is_office g conn is_new (Ok o) there clean goes_on was_there = record {
  clean = clean;
  empty = λ is. let never : false ≡ true = sym there ∙ is in absurd (cc);
  made = λ is. let never : false ≡ true = sym there ∙ is in absurd (cc);
  was_there = λ _. was_there;
  goes_on = λ _. goes_on;
}

-- ---- an office is had, or none

-- the disk of one in memory is always clean
pub made_in_memory : {E : Type 0} (r : Result (Held MemStore) E) → IfOk r (λ o. HasCleanDisk (state over_memory o) → IsStoredBy made_office (state over_memory o))
    → IfOk r (λ o. IsStoredBy made_office (state over_memory o))
made_in_memory (Err e) made = tt
made_in_memory (Ok o) made = made (memory_is_clean o)

-- an office of a connection that was opened from files
pub opened_from : {D E : Type 0} (g : Disks D) (first : Image) (makes is_new : Bool) (conn : Held (FileStore D g)) (r : Result (Held (FileStore D g)) E) → (is_new ≡ true → makes ≡ true)
    → (HasCleanDisk (file_state conn) → IsOpened conn) → (HasCleanDisk (file_state conn) → FindsIn first (file_state conn)) → IfOk r (IsOfficeOver over_files conn is_new)
    → IfOk r (IsOpenedFrom g first makes)
opened_from g first makes is_new conn (Err e) allowed opened found is = tt
opened_from {E = E} g first makes is_new conn (Ok office) allowed opened found is = elim (cases_Bool is_new) [
  | inl made ↦ opened_as_made {E = E} g (Ok office) first (file_state conn) makes (allowed made) is.clean (is.made made) (λ more. absurd (is.empty made more)) opened found
  | inr there ↦ opened_as_taken {E = E} g (Ok office) first (file_state conn) makes is.clean (is.goes_on there) (is.was_there there) opened found
]

-- once something is there, it can't be opened
pub unhad : {T : Type 0} (r : Result T CommandFault) (alone : Type 0) (makes : Bool) → IfErr r IsUnopenable → IfErr r (λ fault. is_sought fault ≡ false) → IfErr r (IsUnhad alone makes)
unhad (Ok x) alone makes failed sought = tt
unhad (Err fault) alone makes failed sought = (failed, inr sought)

-- a connection that is closed into files closes its office
pub closed_after : {D T E : Type 0} (g : Disks D) (office conn : Held (FileStore D g)) (given : Result (Files D) E) (files : Files D) (done : Result T CommandFault) → given ≡ Ok files → conn ≡ office
    → IfOk given (λ f. AreClean g f.log f.db → IsCopied conn f) → IsClosedAfter g office done done
closed_after {D = D} {E = E} g office conn given files done is same copied =
    inl (files, subst (λ (o : Held (FileStore D g)). AreClean g files.log files.db → IsCopied o files) same (subst (λ (r : Result (Files D) E). IfOk r (λ f. AreClean g f.log f.db → IsCopied conn f)) is copied), refl)
