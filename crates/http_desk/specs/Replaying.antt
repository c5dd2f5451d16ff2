-- What replaying records does. `old` is the moment before a call and `new` the moment after it. Of a record alone `old` is the office before
-- it and `new` the office after it. The rules are Depot's own.
use Rattle.std.specs.Prelude.{◌≡◌, ◌≢◌, ◌⊎◌, ◌<◌, ◌≤◌, ◌+◌, ℕ, List, [], ◌∷◌, ◌++◌, Bool, Option, Result, Ok, Err, length, take}
use Rattle.std.specs.Io.KnownBytes.{Appends, Consumes, IsAtEnd}
use Rattle.std.specs.declared.io.Read.{Ghosts as Reads}
use Rattle.std.specs.declared.io.Write.{Ghosts as Writes}
use Rattle.sqlite.specs.Held.{Held}
use Rattle.sqlite.specs.Store.{Ghosts}
use Rattle.http_desk.specs.Records.{answer_record, BeginsWithNone, CanNotBegin}
use Rattle.http_desk.specs.RecordLists.{AreRecords, HasRecords, request_texts, answer_texts, max_records}
use Rattle.desk_devices.specs.Devices.{device_of}
use Rattle.desk_devices.specs.declared.counted.Counted.{Counted}
use Rattle.desk_serving.specs.Serving.{DeskRequest, IsAnswered}
use Rattle.http_desk.specs.declared.replaying.ReplayStop.{ReplayStop}
use Rattle.http_desk.specs.declared.replaying.ReplayStop.TheVariants as stops
use Rattle.http_desk.specs.declared.replaying.ReplayFault.{ReplayFault}

-- ---- moments

-- a moment of a replay: its office, and, where these are known, what its reader still has and what its writer holds
pub record Moment (S : Type 0) : Type 0 where
  pub office : Held S
  pub input : Option (List ℕ)
  pub output : Option (List ℕ)

-- with this reader and this writer
abbrev pub moment_of : {S R W : Type 0} → Reads R → Writes W → Held S → Counted R → Counted W → Moment S
moment_of r w office reader writer =
    record { office = office; input = r.remaining (device_of reader); output = w.contents (device_of writer) }

-- ---- records that are answered

-- a record is answered with this text: by the office, or by the desk, which refuses what it asks
abbrev pub AnswersRecord : {S : Type 0} → Ghosts S → DeskRequest → Held S → Held S → List ℕ → Type 0
AnswersRecord g item old new text = (done : Bool) × IsAnswered g item (record { text = text; done = done }) old new

-- records are answered one after the other, with these texts
abbrev pub AnswersEach : {S : Type 0} → Ghosts S → Held S → List DeskRequest → List (List ℕ) → Held S → Type 0
AnswersEach g old [] [] new = new ≡ old
AnswersEach {S} g old (item ∷ items) (text ∷ texts) new = (mid : Held S) × AnswersRecord g item old mid text × AnswersEach g mid items texts new
AnswersEach g old [] (text ∷ texts) new = ⊥
AnswersEach g old (item ∷ items) [] new = ⊥

-- ---- what a replay comes to

-- these are the records of what was read, `rest` follows them, and exactly the records of their answers were written
pub record HasAnswered {S : Type 0} (g : Ghosts S) (old new : Moment S) (items : List DeskRequest) (rest : List ℕ) : Type 0 where
  pub given : List ℕ
  pub texts : List (List ℕ)
  pub reads : Consumes old.input new.input given
  pub records : HasRecords given items rest
  pub answers : AnswersEach g old.office items texts new.office
  pub writes : Appends old.output new.output (answer_texts texts)

-- what was read begins with these records, which are no more than there may be, and all are done
pub record HasDone {S : Type 0} (g : Ghosts S) (old new : Moment S) (items : List DeskRequest) (texts : List (List ℕ)) : Type 0 where
  pub rest : List ℕ
  pub reads : Consumes old.input new.input (request_texts items ++ rest)
  pub each : AreRecords items
  pub few : length items ≤ max_records
  pub answers : AnswersEach g old.office items texts new.office

-- of the records of these answers the first `answered` were written, and `part` after them
abbrev pub HasWritten : {S : Type 0} → Moment S → Moment S → List (List ℕ) → ℕ → List ℕ → Type 0
HasWritten old new texts answered part = Appends old.output new.output (answer_texts (take answered texts) ++ part)

-- what follows this number of records is no record: the input ended there, or no bytes that follow would make one, or there are as many records
-- as there may be
abbrev pub IsNoRecord : Option (List ℕ) → ℕ → List ℕ → Type 0
IsNoRecord left count rest = (rest ≢ []) × (IsAtEnd left ⊎ (CanNotBegin rest ⊎ (count ≡ max_records)))

-- the part is a beginning of the record of the last answer, and not all of it
abbrev pub IsBegun : List (List ℕ) → List ℕ → Type 0
IsBegun texts part = (before : List (List ℕ)) × (last : List ℕ) × (n : ℕ) × (texts ≡ before ++ last ∷ []) × (n < length (answer_record last)) × (part ≡ take n (answer_record last))

-- a replay stopped: of a bad record, a reader, a writer, or memory that failed
abbrev pub Stopped : {S : Type 0} → Ghosts S → Moment S → Moment S → ReplayFault → ReplayStop → Type 0
Stopped g old new fault (stops.BadRecord index) =
    (items : List DeskRequest) × (rest : List ℕ) × HasAnswered g old new items rest × IsNoRecord new.input (length items) rest
    × (index ≡ length items + 1) × (fault.done ≡ length items) × (fault.answered ≡ length items)
Stopped g old new fault stops.Read =
    (items : List DeskRequest) × (rest : List ℕ) × HasAnswered g old new items rest × BeginsWithNone rest
    × (fault.done ≡ length items) × (fault.answered ≡ length items)
Stopped g old new fault stops.Write =
    (items : List DeskRequest) × (texts : List (List ℕ)) × (part : List ℕ) × HasDone g old new items texts × HasWritten old new texts fault.answered part × IsBegun texts part
    × (fault.done ≡ length items) × (fault.done ≡ fault.answered + 1)
Stopped g old new fault stops.Memory =
    (items : List DeskRequest) × (texts : List (List ℕ)) × HasDone g old new items texts × HasWritten old new texts fault.answered []
    × (fault.done ≡ length items) × ((fault.done ≡ fault.answered) ⊎ (fault.done ≡ fault.answered + 1))

-- a replay came to the end of the input, or stopped
abbrev pub Replayed : {S : Type 0} → Ghosts S → Moment S → Moment S → Result ℕ ReplayFault → Type 0
Replayed g old new (Ok count) =
    (items : List DeskRequest) × HasAnswered g old new items [] × IsAtEnd new.input × (count ≡ length items)
Replayed g old new (Err fault) = Stopped g old new fault fault.stop
