-- What is done with the connection to a peer. `old` is its state before and `new` its state after. The rules are Depot's own.
use Rattle.std.specs.Prelude.{◌≡◌, ◌≤◌, ◌<◌, ◌⊎◌, ℕ, List, [], ◌∷◌, Bool, true, false, MatchBool, MatchResult, Option, Result, Ok, Err, IfSome, length, take}
use Rattle.std.specs.Io.KnownBytes.{Appends, Consumes, IsAtEnd}
use Rattle.std.specs.declared.io.Error.{Error}
use Rattle.std.specs.declared.io.Read.{Ghosts as Reads}
use Rattle.std.specs.declared.io.Write.{Ghosts as Writes}
use Rattle.std.specs.declared.net.Shutdown.TheVariants as sides
use Rattle.std.specs.declared.time.Duration.{Duration}
use Rattle.desk_devices.specs.Devices.{device_of, failures_of, one_more}
use Rattle.desk_devices.specs.declared.counted.Counted.{Counted}
use Rattle.desk_routes.specs.declared.refusal.DeskRefusal.{DeskRefusal}
use Rattle.desk_answers.specs.Answers.{answer_text, refusal_text}
use Rattle.desk_listening.specs.Listening.{Connection, IsOf, is_answered, lost, refused, served}
use Rattle.desk_listening.specs.declared.call.PeerCall.{PeerCall}
use Rattle.desk_listening.specs.declared.call.PeerCall.TheVariants.{ReadWait, Shut, WriteWait}
use Rattle.desk_listening.specs.declared.draining.Drained.{Drained}
use Rattle.desk_listening.specs.declared.draining.Drained.TheVariants.{End, Enough, Failed}
use Rattle.desk_listening.specs.declared.ends.Ends.{Ends}
use Rattle.desk_listening.specs.declared.patience.Patience.{Patience}
use Rattle.desk_listening.specs.declared.peer.Peer.{Ghosts as Peers}

-- ---- calls in turn

-- these calls were made, one after the other, and each worked
abbrev pub Works : {P : Type 0} → (P → PeerCall → Bool → P → Type 0) → List PeerCall → P → P → Type 0
Works does [] old new = new ≡ old
Works {P} does (call ∷ more) old new = (mid : P) × does old call true mid × Works does more mid new

-- of these calls those up to one that failed were made, and none after it
abbrev pub Fails : {P : Type 0} → (P → PeerCall → Bool → P → Type 0) → List PeerCall → P → P → Type 0
Fails does [] old new = ⊥
Fails {P} does (call ∷ more) old new = does old call false new ⊎ ((mid : P) × does old call true mid × Fails does more mid new)

-- before anything is read or written
abbrev pub waits : Duration → List PeerCall
waits wait = ReadWait wait ∷ WriteWait wait ∷ []

-- after a whole answer
abbrev pub leaving : Duration → List PeerCall
leaving rest = Shut sides.Write ∷ ReadWait rest ∷ []

-- both waits were set, and then the ends were asked for
abbrev pub Opens : {P R W : Type 0} → Peers P R W → Duration → P → Result (Ends R W) Error → P → Type 0
Opens {P} p wait old (Ok ends) new = (mid : P) × Works p.does (waits wait) old mid × p.opens mid (Ok ((device_of ends.reader), (device_of ends.writer))) new
Opens {P} p wait old (Err error) new = Fails p.does (waits wait) old new ⊎ ((mid : P) × Works p.does (waits wait) old mid × p.opens mid (Err error) new)

-- ---- what still comes

-- why no more was read: the input was at its end, enough had come, or a read failed
abbrev pub Stops : {R : Type 0} → Reads R → Type 0 → Counted R → Counted R → Drained → Type 0
Stops r enough old new End = IsAtEnd (r.remaining (device_of new)) × (failures_of new ≡ failures_of old)
Stops r enough old new Enough = enough × (failures_of new ≡ failures_of old)
Stops r enough old new Failed = failures_of new ≡ one_more (failures_of old)

-- it was read and dropped, at most this number of bytes
pub record Drops {R : Type 0} (r : Reads R) (most : ℕ) (old new : Counted R) (drained : Drained) : Type 0 where
  pub bytes : List ℕ
  pub came : Consumes (r.remaining (device_of old)) (r.remaining (device_of new)) bytes
  pub few : length bytes ≤ most
  pub stops : Stops r (length bytes ≡ most) old new drained

-- ---- what is written

-- a beginning of the text was written, and not all of it
abbrev pub WritesBeginning : Option (List ℕ) → Option (List ℕ) → List ℕ → Type 0
WritesBeginning held holds text = (count : ℕ) × (count < length text) × Appends held holds (take count text)

abbrev pub IsWritten : Connection → Option (List ℕ) → Option (List ℕ) → Type 0
IsWritten (served bytes item answer true) held holds = Appends held holds (answer_text answer)
IsWritten (served bytes item answer false) held holds = WritesBeginning held holds (answer_text answer)
IsWritten (refused bytes refusal) held holds = Appends held holds (refusal_text refusal)
IsWritten lost held holds = (refusal : DeskRefusal) × WritesBeginning held holds (refusal_text refusal)

-- ---- a whole connection

-- the calls on a peer, on what reads from it and on what writes to it
pub record Calls (P R W : Type 0) : Type 1 where
  pub peer : Peers P R W
  pub reads : Reads R
  pub writes : Writes W

-- a connection at some moment: its peer, and its ends
pub record Link (P R W : Type 0) : Type 0 where
  pub peer : P
  pub ends : Ends R W

-- a peer that got its whole answer: the writing side alone was shut, the wait of a read set anew, and what still came was dropped; or
-- one of the two calls failed, and nothing came after it
pub record Leaves {P R W : Type 0} (calls : Calls P R W) (patience : Patience) (old new : Link P R W) : Type 0 where
  pub heard : Counted R
  pub given : List ℕ
  pub came : Consumes (calls.reads.remaining (device_of old.ends.reader)) (calls.reads.remaining (device_of heard)) given
  pub left : ((drained : Drained) × Works calls.peer.does (leaving patience.rest) old.peer new.peer × Drops calls.reads patience.rest_bytes heard new.ends.reader drained)
      ⊎ (Fails calls.peer.does (leaving patience.rest) old.peer new.peer × (new.ends.reader ≡ heard))

-- What came over a connection: where all that there was to read is known, it is what was heard. With a peer that did not get its
-- whole answer nothing more was done.
pub record Talks {P R W : Type 0} (calls : Calls P R W) (patience : Patience) (old : Link P R W) (connection : Connection) (new : Link P R W) : Type 0 where
  pub heard : IfSome (calls.reads.remaining (device_of old.ends.reader)) (λ input. IsOf input connection)
  pub written : IsWritten connection (calls.writes.contents (device_of old.ends.writer)) (calls.writes.contents (device_of new.ends.writer))
  pub left : MatchBool (is_answered connection) (Leaves calls patience old new) (new.peer ≡ old.peer)

-- a connection was opened, served and left so; without ends nothing comes
abbrev pub Treats : {P R W : Type 0} → Calls P R W → Patience → P → Connection → P → Type 0
Treats {P} {R} {W} calls patience old connection new =
    (ends : Result (Ends R W) Error) × (mid : P) × Opens calls.peer patience.talk old ends mid
    × MatchResult ends (λ opened. (after : Ends R W) × Talks calls patience (record { peer = mid; ends = opened }) connection (record { peer = new; ends = after }))
    (λ _. (connection ≡ lost) × (new ≡ mid))
