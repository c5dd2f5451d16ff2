-- What a call makes of an office whose tables are of one version, and what an upgrade leaves. `old` is the connection
-- before it and `new` the connection after it.
use Rattle.std.specs.Prelude.{◌⊎◌, ◌≡◌, ◌≢◌, ℤ, IsTrue, Some}
use Rattle.sqlite.specs.Effect.{Database}
use Rattle.sqlite.specs.Tree.{Trees}
use Rattle.sqlite.specs.State.{State, Survives}
use Rattle.office_rows.specs.Rows.{Tables, this_version, version_of}
use Rattle.office_tables.specs.Opening.{HasVersion}
use Rattle.office_contents.specs.Tables.{IsOffice, tables_of}
use Rattle.office_tables.specs.Moving.{AllRows, BecomesAt, renewed}
use Rattle.office_contents.specs.Versions.{Newest, version_number}
use Rattle.office_contents.specs.declared.version.TableVersion.{TableVersion}

-- the rows tell the version
abbrev pub TellsVersion : TableVersion → AllRows → Type 0
TellsVersion version rows = version_of rows.tables ≡ Some (version_number version)

-- if the rows tell a version, it is this one
abbrev pub TellsNoOther : TableVersion → AllRows → Type 0
TellsNoOther version rows = (told : ℤ) → version_of rows.tables ≡ Some told → told ≡ version_number version

-- the rows tell one of the known versions
abbrev pub TellsKnown : Tables → Type 0
TellsKnown tables = (version : TableVersion) × (version_of tables ≡ Some (version_number version))

-- the rows tell a version that is none of those known
abbrev pub TellsUnknown : Tables → Type 0
TellsUnknown tables = (other : ℤ) × ((version : TableVersion) → other ≢ version_number version) × (version_of tables ≡ Some other)

-- an office whose tables are of that version, with these rows, which tell no other
pub record IsOfficeOf (version : TableVersion) (db : Database) (rows : AllRows) : Type 0 where
  pub becomes : BecomesAt version db rows
  pub told : TellsNoOther version rows

-- what a crash may leave, where it leaves the trees of an office of that version with these rows
abbrev pub IsLeftAt : TableVersion → AllRows → Trees → Type 0
IsLeftAt version rows left = (made : Database) × BecomesAt version made rows × (left ≡ made.trees)

-- the table `office` shows a known version, and not the newest
abbrev pub IsOlder : Database → Type 0
IsOlder db = (version : TableVersion) × (version_number version ≢ version_number Newest) × HasVersion db (version_number version)

-- what an upgrade makes of a database: it showed an older version, and whichever office of a known version it was, a crash
-- leaves it renewed
pub record IsUpgrade (db : Database) (left : Trees) : Type 0 where
  pub was_older : IsOlder db
  pub leaves : (version : TableVersion) (rows : AllRows) → IsOfficeOf version db rows → IsLeftAt Newest (renewed version rows) left

-- whichever office of a known version was there, it is there renewed
abbrev pub IsRenewed : Database → Database → Type 0
IsRenewed old new = (version : TableVersion) (rows : AllRows) → IsOfficeOf version old rows → BecomesAt Newest new (renewed version rows)

-- row 1 has a version that is none of those known
abbrev pub HasUnknownVersion : Database → Type 0
HasUnknownVersion db = (other : ℤ) × ((version : TableVersion) → other ≢ version_number version) × HasVersion db other

-- ---- what is stored, and what is found again

-- while the store is open it has an office of that version with these rows, and all of it is committed
abbrev pub IsStoredAt : TableVersion → AllRows → State → Type 0
IsStoredAt version rows s = IsTrue s.is_open → BecomesAt version s.now rows × (s.committed ≡ s.now)

-- whichever office of a known version was stored, it is stored with the newest tables
abbrev pub Upgrades : State → State → Type 0
Upgrades old new = (version : TableVersion) (rows : AllRows) → TellsNoOther version rows → IsStoredAt version rows old
    → IsStoredAt Newest (renewed version rows) new

-- whichever a crash may have left, it is taken up, with the newest tables
abbrev pub TakesUp : State → State → Type 0
TakesUp old new = (version : TableVersion) (rows : AllRows) → TellsNoOther version rows → IsLeftAt version rows old.now.trees
    → IsStoredAt Newest (renewed version rows) new

-- whichever was there, stored or left by a crash, a crash leaves it with the newest tables, and leaves nothing else
abbrev pub UpgradeLasts : State → State → Type 0
UpgradeLasts old new = (version : TableVersion) (rows : AllRows) → TellsNoOther version rows → IsTrue old.is_open → IsLeftAt version rows old.now.trees
    → (left : Trees) → new.may_leave left → IsLeftAt Newest (renewed version rows) left

-- whichever was there, at every exit a crash leaves it, or leaves it with the newest tables
abbrev pub LeavesOffice : State → State → Type 0
LeavesOffice old new = (version : TableVersion) (rows : AllRows) → TellsNoOther version rows → IsTrue old.is_open → IsLeftAt version rows old.now.trees
    → (left : Trees) → new.may_leave left → IsLeftAt version rows left ⊎ IsLeftAt Newest (renewed version rows) left

-- whichever office of an older version was there, stored or left by a crash, the store is open
abbrev pub OpensOlder : State → State → Type 0
OpensOlder old new = (version : TableVersion) (rows : AllRows) → version_number version ≢ version_number Newest → TellsVersion version rows → IsTrue old.is_open
    → IsLeftAt version rows old.now.trees → IsTrue new.is_open

-- of tables that are the newest, a crash leaves no other trees than it could leave before
abbrev pub NewestSurvives : State → State → Type 0
NewestSurvives old new = IsOffice old.now → version_of (tables_of old.now) ≡ Some this_version → Survives old new (λ _. ⊥)

-- whatever office was stored, it still is
abbrev pub HasSameOffice : State → State → Type 0
HasSameOffice old new = (version : TableVersion) (rows : AllRows) → IsStoredAt version rows old → IsStoredAt version rows new

-- whatever office a crash may have left, it is stored by its own version
abbrev pub GoesBack : State → State → Type 0
GoesBack old new = (version : TableVersion) (rows : AllRows) → IsLeftAt version rows old.now.trees → IsStoredAt version rows new
