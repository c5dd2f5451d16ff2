-- What a connection keeps of an office, and what it picks up of what was left of one. All is said of databases: of what a database
-- shows nothing is said here, so it holds of all that can be said of one.
use Rattle.std.specs.Prelude.{◌≡◌, IsTrue}
use Rattle.sqlite.specs.Recovery.{Image}
use Rattle.sqlite.specs.Tree.{Trees}
use Rattle.sqlite.specs.Effect.{Database, IsDatabase}
use Rattle.sqlite.specs.State.{State}
use Rattle.sqlite.specs.Files.{HoldsDatabase}

-- while the store is open, it shows this database, and all of it is committed
abbrev pub ShowsCommitted : Database → State → Type 0
ShowsCommitted db s = IsTrue s.is_open → (s.now ≡ db) × (s.committed ≡ s.now)

-- where the trees before were left of a database, it is that database
abbrev pub GoesOnAs : State → State → Type 0
GoesOnAs old new = (db : Database) → IsDatabase db → old.now.trees ≡ db.trees → ShowsCommitted db new

-- the files hold a database of which this is so
abbrev pub HoldsWhere : (Trees → Type 0) → Image → Type 0
HoldsWhere P image = ∥ ((db : Trees) × P db × HoldsDatabase image db) ∥₁

-- a database whose trees the files hold is picked up
abbrev pub PicksUp : Image → State → Type 0
PicksUp image s = (left : Trees) → HoldsDatabase image left → (db : Database) → IsDatabase db → left ≡ db.trees → ShowsCommitted db s
