-- Histories and the rows that are kept or left of them.
use Rattle.office_engine.proofs.Common.{◌≡◌, Some, ℕ, pos, refl, sym, subst, Trees, State, Survives, survives_weaker, empty_office, this_version, version_of, Database, History, picture, IsLegal, new_history, limits_hold, Pictures, IsStoredBy, IsLeftOf}
use Rattle.office_tables.specs.Opening.{IsLeft, IsMadeLeft}
use Rattle.office_tables.specs.Found.{GoesOnAs, ShowsCommitted}

pub rows_left : (h : History) (left : Trees) → IsLeftOf h left → IsLeft (picture this_version h) left
rows_left h left it = (it.0, record { office = it.1.office; are = it.1.are }, it.2)

-- what shows a database that pictures a history keeps that history
pub shown_kept : (h : History) (db : Database) (s : State) → Pictures h db → ShowsCommitted db s → IsStoredBy h s
shown_kept h db s pictured shows is_open = let it = shows is_open in (subst (Pictures h) (sym it.0) pictured, it.1)

-- what was left goes on as the history that it pictures
pub history_goes_on : (old new : State) → GoesOnAs old new → (h : History) → IsLeftOf h old.now.trees → IsStoredBy h new
history_goes_on old new on h left = shown_kept h left.0 new left.1 (on left.0 left.1.office.whole.listed left.2)

-- a crash leaves a new office
pub new_left : (a b : ℕ) (left : Trees) → IsMadeLeft (empty_office this_version (pos a) (pos b)) left → IsLeftOf (new_history a b) left
new_left a b left it = (it.0, record { office = it.1.office; are = it.1.are; once = it.2 }, it.3)

pub new_survives : (a b : ℕ) (old new : State) → Survives old new (IsMadeLeft (empty_office this_version (pos a) (pos b))) → Survives old new (IsLeftOf (new_history a b))
new_survives a b old new = survives_weaker old new _ _ (λ clean db left. new_left a b db left)

-- the tables of a legal history are known as this version's
pub known_version : (h : History) → IsLegal h → version_of (picture this_version h) ≡ Some this_version
known_version h legal =
    let within = limits_hold h legal in
    rw (within.deposits_limit, within.holds_limit) refl
