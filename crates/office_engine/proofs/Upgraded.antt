-- Histories through an upgrade, from what is said of rows.
use Rattle.office_engine.proofs.Common.{◌≡◌, ℤ, List, [], ◌∷◌, find, option_map, Some, refl, sym, ap, subst, subst₂, ◌∙◌, IsTrue, inl, inr, Trees, Database, Ghosts, State, Survives, Held, state, survives_weaker, OfficeRow, is_known, this_version, contents_of, references_of, AreStoredOnce, TableFault, History, office_row, picture, IsLegal, limits_hold, Pictures, PicturesAt, IsStoredAt, IsStoredBy, IsLeftAt, IsLeftOf, HasSameTables, AllRows, BecomesAt, renewed, Third, Newest, Upgrades, UpgradeLasts, OpensOlder, TakesUp, StaysAt, GoesBackAt, LeavesAt, IsLeftOfUpgrade, IsUpgradeOf, StoppedInTurn}
use Rattle.office_contents.specs.Faults.{IsFailure}
use Rattle.office_contents.specs.Versions.{version_number}
use Rattle.office_contents.specs.declared.version.TableVersion.{TableVersion}
use Rattle.office_upgrade.specs.Upgrading as rows
use Rattle.office_upgrade.proofs.Stored.{stays_once}
use Rattle.office_core.proofs.OptionLemmas.{by_Bool}

-- the rows by which a version pictures a history, with the contents of a database
abbrev rows_of : TableVersion → History → Database → AllRows
rows_of version h db = record { tables = picture (version_number version) h; contents = contents_of db; references = references_of db }

-- the row of the office that the version writes tells no other
tells_no_other : (version : TableVersion) (h : History) (db : Database) → rows.TellsNoOther version (rows_of version h db)
tells_no_other version h db told is = one_told (office_row (version_number version) h) told is
  where
    one_told : (o : OfficeRow) (seen : ℤ) → option_map (λ (x : OfficeRow). x.version) (find is_known (o ∷ [])) ≡ Some seen → seen ≡ o.version
    one_told o seen e = by_Bool (is_known o) (λ known. let it = rw known at e in cc) (λ unknown. absurd (let it = rw unknown at e in cc))

-- the tables of a legal history tell their version
tells : (version : TableVersion) (h : History) (db : Database) → IsLegal h → rows.TellsVersion version (rows_of version h db)
tells version h db legal = let within = limits_hold h legal in rw (within.deposits_limit, within.holds_limit) refl

becomes : (version : TableVersion) (h : History) (db : Database) → PicturesAt version h db → BecomesAt version db (rows_of version h db)
becomes version h db pictured =
    record { office = pictured.office; are = λ i. record { tables = pictured.are i; contents = contents_of db; references = references_of db } }

-- the picture of each version is renewed into that of the newest
renewed_picture : (version : TableVersion) (h : History) (db : Database) → (renewed version (rows_of version h db)).tables ≡ picture this_version h
renewed_picture Third h db = refl
renewed_picture _ h db = refl

module _ (version : TableVersion) (h : History) (old : Database) (pictured : PicturesAt version h old) where
  -- what has the rows renewed pictures the history
  pictures_new : (new : Database) → BecomesAt Newest new (renewed version (rows_of version h old)) → Pictures h new
  pictures_new new now = record {
    office = now.office;
    are = ap (λ (r : AllRows). r.tables) now.are ∙ renewed_picture version h old;
    once = stays_once version (rows_of version h old) old new (becomes version h old pictured) now pictured.once;
  }

  -- and so does what still has the rows
  pictures_still : (other : Database) → BecomesAt version other (rows_of version h old) → PicturesAt version h other
  pictures_still other still = record {
    office = still.office;
    are = ap (λ (r : AllRows). r.tables) still.are;
    once = subst₂ AreStoredOnce (sym (ap (λ (r : AllRows). r.references) still.are)) (sym (ap (λ (r : AllRows). r.contents) still.are)) pictured.once;
  }

  left_new : (left : Trees) → rows.IsLeftAt Newest (renewed version (rows_of version h old)) left → IsLeftOf h left
  left_new left it = (it.0, pictures_new it.0 it.1, it.2)

  left_still : (left : Trees) → rows.IsLeftAt version (rows_of version h old) left → IsLeftAt version h left
  left_still left it = (it.0, pictures_still it.0 it.1, it.2)

-- what was kept, and what was left, as rows
kept_rows : (version : TableVersion) (h : History) (old : State) → IsStoredAt version h old → rows.IsStoredAt version (rows_of version h old.now) old
kept_rows version h old kept is_open = (becomes version h old.now (kept is_open).0, (kept is_open).1)

left_rows : (version : TableVersion) (h : History) (left : Trees) (it : IsLeftAt version h left) → rows.IsLeftAt version (rows_of version h it.0) left
left_rows version h left it = (it.0, becomes version h it.0 it.1, it.2)

pub upgrades : (old new : State) → IsTrue old.is_open → rows.Upgrades old new → Upgrades old new
upgrades old new was_open made version h kept is_open =
    let it = made version (rows_of version h old.now) (tells_no_other version h old.now) (kept_rows version h old kept) is_open in
    (pictures_new version h old.now (kept was_open).0 new.now it.0, it.1)

pub takes_up : (old new : State) → rows.TakesUp old new → TakesUp old new
takes_up old new made version h left is_open =
    let it = made version (rows_of version h left.0) (tells_no_other version h left.0) (left_rows version h old.now.trees left) is_open in
    (pictures_new version h left.0 left.1 new.now it.0, it.1)

pub lasts : (old new : State) → rows.UpgradeLasts old new → UpgradeLasts old new
lasts old new made version h was_open found left may =
    left_new version h found.0 found.1 left (made version (rows_of version h found.0) (tells_no_other version h found.0) was_open (left_rows version h old.now.trees found) left may)

pub leaves : (old new : State) → rows.LeavesOffice old new → LeavesAt old new
leaves old new made version h was_open found left may =
    elim (made version (rows_of version h found.0) (tells_no_other version h found.0) was_open (left_rows version h old.now.trees found) left may) [
      | inl still ↦ inl (left_still version h found.0 found.1 left still)
      | inr renewed ↦ inr (left_new version h found.0 found.1 left renewed)
    ]

pub stays : (old new : State) → HasSameTables old new → StaysAt old new
stays old new same version h kept is_open =
    let it = same is_open in
    let before = kept it.0 in
    (subst (λ (d : Database). PicturesAt version h d) (sym it.1) before.0, it.2 ∙ sym it.1)

pub goes_back : (old new : State) → rows.GoesBack old new → GoesBackAt old new
goes_back old new back version h left is_open =
    let it = back version (rows_of version h left.0) (left_rows version h old.now.trees left) is_open in
    (pictures_still version h left.0 left.1 new.now it.0, it.1)

pub upgrade_survives : (old new : State) → Survives old new (rows.IsUpgrade old.now) → Survives old new (IsUpgradeOf old.now)
upgrade_survives old new = survives_weaker old new _ _ (λ clean left made version h pictured.
    left_new version h old.now pictured left (made.leaves version (rows_of version h old.now) (record { becomes = becomes version h old.now pictured; told = tells_no_other version h old.now })))

pub opens_older : (old new : State) → rows.OpensOlder old new → OpensOlder old new
opens_older old new opens version h older legal was_open left = opens version (rows_of version h left.0) older (tells version h left.0 legal) was_open (left_rows version h old.now.trees left)

-- of an office of a known version, and of what was left of one, nothing but a failure is said
pub left_fails : (stopped : TableFault) (old : State) → ((version : TableVersion) (all : AllRows) → rows.TellsVersion version all → rows.IsLeftAt version all old.now.trees → IsFailure stopped)
    → (version : TableVersion) (h : History) → IsLegal h → IsLeftAt version h old.now.trees → IsFailure stopped
left_fails stopped old fails version h legal left = fails version (rows_of version h left.0) (tells version h left.0 legal) (left_rows version h old.now.trees left)

-- ---- upgrades that are stopped

-- what was left of one goes on
pub stopped_goes_on : (again done : State) (version : TableVersion) (h : History) → TakesUp again done → IsLeftOfUpgrade version h again.now.trees → IsStoredBy h done
stopped_goes_on again done version h takes (inl before) = takes version h before
stopped_goes_on again done version h takes (inr after) = takes Newest h after

-- one more leaves what one leaves
stopped_again : (begun stopped : State) (version : TableVersion) (h : History) → IsTrue begun.is_open → LeavesAt begun stopped → IsLeftOfUpgrade version h begun.now.trees
    → (left : Trees) → stopped.may_leave left → IsLeftOfUpgrade version h left
stopped_again begun stopped version h was_open leaves_at (inl before) left may = leaves_at version h was_open before left may
stopped_again begun stopped version h was_open leaves_at (inr after) left may = elim (leaves_at Newest h was_open after left may) [ inl it ↦ inr it | inr it ↦ inr it ]

pub stopped_in_turn : {S : Type 0} (g : Ghosts S) (first : Trees) (stops : List (Held S × Held S)) (left : Trees) (version : TableVersion) (h : History)
    → StoppedInTurn g first stops left → IsLeftOfUpgrade version h first → IsLeftOfUpgrade version h left
stopped_in_turn g first [] left version h same it = subst (IsLeftOfUpgrade version h) (sym same) it
stopped_in_turn g first ((begun, stopped) ∷ more) left version h (was_open, is, leaves_at, between, may, rest) it =
    stopped_in_turn g between more left version h rest (stopped_again (state g begun) (state g stopped) version h was_open leaves_at (subst (IsLeftOfUpgrade version h) (sym is) it) between may)

-- what was kept stands in the trees
pub kept_stands : (version : TableVersion) (h : History) (old : State) → IsTrue old.is_open → IsStoredAt version h old → IsLeftAt version h old.now.trees
kept_stands version h old was_open kept = (old.now, (kept was_open).0, refl)
