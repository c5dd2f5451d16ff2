-- What comes of connections, and of a port that can't be had.
use Rattle.office_commands.proofs.Common.{◌≡◌, ◌+◌, ◌<◌, ◌∙◌, ℕ, List, [], ◌∷◌, Err, inl, length, ◌≤◌, refl, sym, subst, Date, Held, Ghosts, Connection, IsAfterAll, IsItemOf, Served, AreDone, Deed, deeds_of_connections, IsPortFor, IsServedItsOwn, Listens, IsUnheard, Said, CommandFault}
use Rattle.std.specs.List.{AllByRecursion}
use Rattle.desk_listening.specs.Accepting.{CountsAs}
use Rattle.desk_listening.specs.Listening as listening
use Rattle.office_commands.proofs.DeedLemmas.{connections_are_done}

module _ {S : Type 0} (g : Ghosts S) (day : Date) (old new : Held S) where
  pub served_all : (count : ℕ) (served : Served) (connections : List Connection) (Logged : List Connection → Type 0) → served.answered + served.failed ≡ count → CountsAs connections served
      → IsAfterAll g day connections old new → Logged connections → (served : List Connection) × (length served ≡ count) × AreDone g (deeds_of_connections day served) old new × Logged served
  served_all count served connections Logged sum counts after logged = (connections, counts.0 ∙ sum, connections_are_done g day connections old new after, logged)

  pub served_fewer : (count : ℕ) (served : Served) (connections : List Connection) (Logged : List Connection → Type 0) → served.answered + served.failed < count → CountsAs connections served
      → IsAfterAll g day connections old new → Logged connections → (served : List Connection) × (length served < count) × AreDone g (deeds_of_connections day served) old new × Logged served
  served_fewer count served connections Logged fewer counts after logged =
      (connections, subst (λ (n : ℕ). n < count) (sym counts.0) fewer, connections_are_done g day connections old new after, logged)

-- each connection is served what its bytes ask
pub all_own : {S : Type 0} (g : Ghosts S) (day : Date) (connections : List Connection) (old new : Held S) → IsAfterAll g day connections old new → AllByRecursion (IsServedItsOwn day) connections
all_own g day [] old new after = tt
all_own g day (listening.served bytes item answer whole ∷ more) old new after =
    let it = after.1 in
    ((it.0, it.1, subst (IsItemOf day it.0) it.3 it.2.asks), all_own g day more after.0 new after.2)
all_own g day (listening.refused bytes refusal ∷ more) old new after = (tt, all_own g day more after.0 new after.2)
all_own g day (listening.lost ∷ more) old new after = (tt, all_own g day more after.0 new after.2)

-- the port can't be had
pub unheard : {S : Type 0} (T : Type 0) (g : Ghosts S) (day : Date) (office : Held S) (fault : CommandFault) (port count : ℕ) (held : Said) → IsUnheard fault → port ≤ 65_535
    → (told : ℕ) × (deeds : List Deed) × IsPortFor port told × Listens {T = T} (record { day = day; port = told; count = count }) (Err fault) deeds held held × AreDone g deeds office office
unheard T g day office fault port count held fails fits = (port, [], (fits, λ other. refl), inl (fails, refl, refl), refl)
