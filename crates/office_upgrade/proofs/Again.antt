-- What was kept, and what was left, of an office of a known version, after an upgrade and after a refusal.
use Rattle.office_upgrade.proofs.Common.{◌≡◌, ◌⊎◌, None, Some, IsTrue, refl, sym, ap, subst, ◌∙◌, inl, inr, Database, IsDatabase, Trees, State, HasCleanDisk, Survives, IsLive, survives_weaker, version_of, HasVersion, HasSameTables, NotAnOffice, AllRows, BecomesAt, renewed, IsOfficeAt, tables_at, version_number, IsOfficeOf, IsUpgrade, IsLeftAt, Upgrades, UpgradeLasts, TakesUp, HasSameOffice, LeavesOffice, GoesBack, OpensOlder, NewestSurvives, TellsKnown, TellsUnknown, HasUnknownVersion, TableVersion, Newest, is_there, tells_version}
use Rattle.office_tables.proofs.FoundAgain.{same_database}

becomes_again : (version : TableVersion) (rows : AllRows) (left : Trees) (b : Database) → IsLeftAt version rows left → IsDatabase b → b.trees ≡ left → BecomesAt version b rows
becomes_again version rows left b h q e = subst (λ d. BecomesAt version d rows) (same_database h.0 b h.1.office.whole.listed q (sym (e ∙ h.2))) h.1

-- what was left of an office is that office, where it is found
pub found_becomes : (version : TableVersion) (rows : AllRows) (old : State) → IsLive old → IsTrue old.is_open → IsLeftAt version rows old.now.trees → BecomesAt version old.now rows
found_becomes version rows old live was_open left = becomes_again version rows old.now.trees old.now left (live was_open).0 refl

module _ (old new : State) (was_open : IsTrue old.is_open) (settled : IsTrue old.is_open → old.now ≡ old.committed)
    (made : (version : TableVersion) (rows : AllRows) → IsOfficeOf version old.now rows → old.committed ≡ old.now → IsTrue new.is_open → BecomesAt Newest new.now (renewed version rows) × (new.committed ≡ new.now)) where
  pub upgrades : Upgrades old new
  upgrades version rows told kept is_open = let was = kept was_open in made version rows (record { becomes = was.0; told = told }) was.1 is_open

  pub takes_up : IsLive old → TakesUp old new
  takes_up live version rows told left is_open =
      made version rows (record { becomes = found_becomes version rows old live was_open left; told = told }) (sym (settled was_open)) is_open

pub lasts_found : (old new : State) → IsLive old → (IsTrue old.is_open → old.now ≡ old.committed)
    → ((version : TableVersion) (rows : AllRows) → IsOfficeOf version old.now rows → old.committed ≡ old.now → IsTrue old.is_open → (left : Trees) → new.may_leave left → IsLeftAt Newest (renewed version rows) left)
    → UpgradeLasts old new
lasts_found old new live outside lasts version rows told was_open found left may =
    lasts version rows (record { becomes = found_becomes version rows old live was_open found; told = told }) (sym (outside was_open)) was_open left may

-- of an older version the store is open
pub opens_older : (old new : State) → IsLive old → HasVersion old.now (version_number Newest) ⊎ IsTrue new.is_open → OpensOlder old new
opens_older old new live (inr is_open) version rows older told was_open left = is_open
opens_older old new live (inl newest) version rows older told was_open left =
    let becomes = found_becomes version rows old live was_open left in
    absurd (older (let same : Some (version_number version) ≡ Some (version_number Newest) =
    sym (ap (λ (r : AllRows). version_of r.tables) becomes.are ∙ told) ∙ tells_version version old.now becomes.office.whole (Some (version_number Newest)) newest in cc))

-- at every exit
pub leaves_office : (old new : State) → IsLive old → (IsTrue old.is_open → old.now ≡ old.committed) → Survives old new (IsUpgrade old.now) → HasCleanDisk new
    → ((db : Trees) → IsTrue old.is_open → old.may_leave db → db ≡ old.committed.trees) → LeavesOffice old new
leaves_office old new live outside s clean settled version rows told was_open found left may =
    let becomes = found_becomes version rows old live was_open found in
    elim (s.crash clean left may) [
      | inl before ↦ inl (old.now, becomes, settled left was_open before ∙ sym (ap (λ (d : Database). d.trees) (outside was_open)))
      | inr upgraded ↦ inr (upgraded.leaves version rows (record { becomes = becomes; told = told }))
    ]

pub keeps_office : (old new : State) → HasSameTables old new → HasSameOffice old new
keeps_office old new kept version rows was is_open =
    let it = kept is_open in
    let before = was it.0 in
    (subst (λ (d : Database). BecomesAt version d rows) (sym it.1) before.0, it.2 ∙ sym it.1)

pub goes_back : (old new : State) → IsLive old → HasSameTables old new → GoesBack old new
goes_back old new live kept version rows left is_open =
    let it = kept is_open in
    (subst (λ (d : Database). BecomesAt version d rows) (sym it.1) (found_becomes version rows old live it.0 left), it.2 ∙ sym it.1)

-- ---- what the rows of an office tell

-- of the newest tables nothing is made
pub newest_survives : (old new : State) → Survives old new (IsUpgrade old.now) → NewestSurvives old new
newest_survives old new s office told = survives_weaker old new _ _ (λ clean left made.
    let older = made.was_older in
    absurd (older.1 (let same : Some (version_number older.0) ≡ Some (version_number Newest) = sym (tells_version Newest old.now office.whole (Some (version_number older.0)) older.2) ∙ told in cc))) s

pub told_known : (version : TableVersion) (db : Database) → IsOfficeAt version db → (known : TableVersion) → HasVersion db (version_number known) → TellsKnown (tables_at version db)
told_known version db office known has = (known, tells_version version db office.whole (Some (version_number known)) has)

pub told_none : (version : TableVersion) (db : Database) → IsOfficeAt version db → NotAnOffice db → version_of (tables_at version db) ≡ None
told_none version db office (inl missing) = absurd (let there = is_there version db.schema office.whole.schema_is in cc)
told_none version db office (inr shown) = tells_version version db office.whole None shown

pub told_unknown : (version : TableVersion) (db : Database) → IsOfficeAt version db → HasUnknownVersion db → TellsUnknown (tables_at version db)
told_unknown version db office it = (it.0, it.1, tells_version version db office.whole (Some it.0) it.2)
