-- What an upgrade makes of an office whose tables may be of an older version. `old` is the store before it and `new` the store after it.
use Rattle.std.specs.Prelude.{◌⊎◌, ◌≡◌, ◌≢◌, IsTrue, List, [], ◌∷◌}
use Rattle.sqlite.specs.Tree.{Trees}
use Rattle.sqlite.specs.Effect.{Database}
use Rattle.sqlite.specs.Store.{Ghosts}
use Rattle.sqlite.specs.State.{State}
use Rattle.sqlite.specs.Held.{Held, state}
use Rattle.office_tables.specs.Moving.{AllRows}
use Rattle.office_contents.specs.Versions.{Newest, version_number}
use Rattle.office_contents.specs.declared.version.TableVersion.{TableVersion}
use Rattle.office_history.specs.Histories.{History}
use Rattle.office_history.specs.Runs.{IsLegal}
use Rattle.office_access.specs.Contents.{Rows}
use Rattle.office_access.specs.Pictures.{PicturesAt}
use Rattle.office_engine.specs.Storing.{IsStoredAt, IsStoredBy, IsLeftAt, IsLeftOf}

-- whichever history was kept, by tables of any known version, it is kept by those of this one
abbrev pub Upgrades : State → State → Type 0
Upgrades old new = (version : TableVersion) (h : History) → IsStoredAt version h old → IsStoredBy h new

-- whichever a crash may have left, it is taken up, with the tables of this version
abbrev pub TakesUp : State → State → Type 0
TakesUp old new = (version : TableVersion) (h : History) → IsLeftAt version h old.now.trees → IsStoredBy h new

-- whichever was there, kept or left by a crash, a crash leaves it by the tables of this version, and leaves nothing else
abbrev pub UpgradeLasts : State → State → Type 0
UpgradeLasts old new = (version : TableVersion) (h : History) → IsTrue old.is_open → IsLeftAt version h old.now.trees
    → (left : Trees) → new.may_leave left → IsLeftOf h left

-- what a crash leaves of an upgrade: the history, by the tables that it had, or by those of this version
abbrev pub IsLeftOfUpgrade : TableVersion → History → Trees → Type 0
IsLeftOfUpgrade version h left = IsLeftAt version h left ⊎ IsLeftOf h left

-- whichever was there, at every exit a crash leaves it so
abbrev pub LeavesAt : State → State → Type 0
LeavesAt old new = (version : TableVersion) (h : History) → IsTrue old.is_open → IsLeftAt version h old.now.trees
    → (left : Trees) → new.may_leave left → IsLeftOfUpgrade version h left

-- whichever legal history was there by older tables, kept or left by a crash, the store is open
abbrev pub OpensOlder : State → State → Type 0
OpensOlder old new = (version : TableVersion) (h : History) → version_number version ≢ version_number Newest → IsLegal h → IsTrue old.is_open
    → IsLeftAt version h old.now.trees → IsTrue new.is_open

-- whichever history was kept, it still is, by the tables that it had
abbrev pub StaysAt : State → State → Type 0
StaysAt old new = (version : TableVersion) (h : History) → IsStoredAt version h old → IsStoredAt version h new

-- whichever a crash may have left, it is kept by the tables that it had
abbrev pub GoesBackAt : State → State → Type 0
GoesBackAt old new = (version : TableVersion) (h : History) → IsLeftAt version h old.now.trees → IsStoredAt version h new

-- whichever history the database pictured, a crash leaves it by the tables of this version
abbrev pub IsUpgradeOf : Database → Trees → Type 0
IsUpgradeOf db left = (version : TableVersion) (h : History) → PicturesAt version h db → IsLeftOf h left

-- upgrades that were begun over the first store of each pair and stopped as the second: each was begun over trees that a crash may leave of
-- the one before it, and these are the trees that a crash leaves of the last
abbrev pub StoppedInTurn : {S : Type 0} → Ghosts S → Trees → List (Held S × Held S) → Trees → Type 0
StoppedInTurn g first [] left = left ≡ first
StoppedInTurn g first ((begun, stopped) ∷ more) left =
    IsTrue (state g begun).is_open × ((state g begun).now.trees ≡ first) × LeavesAt (state g begun) (state g stopped)
    × (between : Trees) × (state g stopped).may_leave between × StoppedInTurn g between more left

-- ---- whichever rows an office has

-- these rows, as an upgrade speaks of them
abbrev pub all_rows_of : Rows → AllRows
all_rows_of r = record { tables = r.tables; contents = r.contents.rows; references = r.contents.references }
