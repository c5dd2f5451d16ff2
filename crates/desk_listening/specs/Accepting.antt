-- How connections are taken, one after the other. `old` is the listener before and `new` the listener after. The rules are Depot's own.
use Rattle.std.specs.Prelude.{◌≡◌, ◌+◌, ◌⊎◌, List, [], ◌∷◌, Result, Ok, Err, count_by, length}
use Rattle.std.specs.IoError.{error_kind}
use Rattle.std.specs.declared.io.Error.{Error}
use Rattle.std.specs.declared.io.ErrorKind.{ErrorKind}
use Rattle.std.specs.declared.io.ErrorKind.TheVariants.{ConnectionAborted, Interrupted}
use Rattle.desk_listening.specs.Listening.{Connection, is_answered, lost}
use Rattle.desk_listening.specs.declared.listener.Listener.{Ghosts as Listeners}
use Rattle.desk_listening.specs.declared.accepting.AcceptFailed.{AcceptFailed}
use Rattle.desk_listening.specs.declared.accepting.Served.{Served}

-- an `accept` that failed so ends one connection alone: it was aborted by its peer, or a signal interrupted the call
abbrev pub EndsAlone : ErrorKind → Type 0
EndsAlone kind = (kind ≡ ConnectionAborted) ⊎ (kind ≡ Interrupted)

-- one connection was accepted, by one call, treated so, and closed; or the call failed, and ended it alone
abbrev pub Takes : {L P : Type 0} → Listeners L P → (P → Connection → P → Type 0) → Connection → L → L → Type 0
Takes {L} {P} l Treats connection old new =
    ((peer left : P) × (mid : L) × l.accepts old (Ok peer) mid × Treats peer connection left × l.closes mid left new)
    ⊎ ((error : Error) × EndsAlone (error_kind error) × l.accepts old (Err error) new × (connection ≡ lost))

-- one after the other
abbrev pub TakesAll : {L P : Type 0} → Listeners L P → (P → Connection → P → Type 0) → List Connection → L → L → Type 0
TakesAll l Treats [] old new = new ≡ old
TakesAll {L} l Treats (connection ∷ more) old new = (mid : L) × Takes l Treats connection old mid × TakesAll l Treats more mid new

-- what came of the connections, whether or not an `accept` ended them
abbrev pub served_of : Result Served AcceptFailed → Served
served_of (Ok served) = served
served_of (Err failure) = failure.served

-- how many of these connections were answered, and how many weren't
abbrev pub CountsAs : List Connection → Served → Type 0
CountsAs connections served = (length connections ≡ served.answered + served.failed) × (count_by is_answered connections ≡ served.answered)

-- after the connections nothing more was accepted; or one more `accept` failed, so that it ends them all
abbrev pub EndsAt : {L P : Type 0} → Listeners L P → Result Served AcceptFailed → L → L → Type 0
EndsAt l (Ok served) old new = new ≡ old
EndsAt l (Err failure) old new = l.accepts old (Err failure.error) new × (¬ EndsAlone (error_kind failure.error))
