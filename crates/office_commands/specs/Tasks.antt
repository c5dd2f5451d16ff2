-- What is to be done with an open office, and what the input gives, and the output and the log get as it is done. `was` is the traffic before
-- and `now` the traffic after; `old` is the office before and `new` the office after.
use Rattle.std.specs.Prelude.{◌≡◌, ◌≢◌, ◌⊎◌, ◌<◌, ◌≤◌, ◌+◌, ◌∷◌, ◌++◌, [], ℕ, Bool, true, false, List, Option, None, Some, Result, Ok, Err, ⊤, IfErr, IsErrAnd, codes, decimal, length, take}
use Rattle.std.specs.List.{AllByRecursion}
use Rattle.std.specs.Io.KnownBytes.{Appends, IsAtEnd}
use denote.Ref.{Bor}
use Rattle.jiff.specs.Types.{Date}
use Rattle.sqlite.specs.Held.{Held}
use Rattle.sqlite.specs.Store.{Ghosts}
use Rattle.office_core.specs.Policies.{PolicyValue}
use Rattle.desk_routes.specs.declared.refusal.DeskRefusal.TheVariants.{Truncated}
use Rattle.desk_hearing.specs.Asking.{HeardValue}
use Rattle.desk_hearing.specs.Hearing.{Hears}
use Rattle.desk_listening.specs.Listening as listening
use Rattle.desk_listening.specs.Listening.{Connection}
use Rattle.desk_listening.specs.Logging.{all_lines}
use Rattle.desk_log.specs.Logging.{IsLogged, Log}
use Rattle.desk_serving.specs.Serving.{DeskRequest, IsItemOf}
use Rattle.http_desk.specs.Records.{BeginsWithNone}
use Rattle.http_desk.specs.RecordLists.{AreRecords, answer_texts, max_records, request_texts}
use Rattle.http_desk.specs.Replaying.{IsBegun, IsNoRecord}
use Rattle.streams.specs.Writing.{IsCutShort}
use Rattle.office_commands.specs.Deeds.{AreDone, Deed, answers, deeds_of_connections, deeds_of_records, fails, installs}
use Rattle.office_stores.specs.Texts.{IsUnaccepted, IsUnheard, IsUninstalled, IsUnsaid}
use Rattle.office_commands.specs.Traffic.{Begins, InputGives, IsUnlogged, Said, Traffic, Upshot, WritesText, said_in}
use Rattle.office_stores.specs.declared.fault.Cause.TheVariants.{Input, Output}
use Rattle.office_stores.specs.declared.fault.CommandFault.{CommandFault}
use Rattle.office_stores.specs.declared.fault.CommandFault.TheVariants as faults
use Rattle.office_stores.specs.declared.fault.CommandFault.TheVariants.{BadRecord, Failed}
use Rattle.office_stores.specs.declared.fault.StoreFault.TheVariants.{Device, Memory}
use Rattle.office_commands.specs.declared.work.Work.{Work}
use Rattle.office_commands.specs.declared.work.Work.TheVariants.{Ask, Policy, Replay, Serve}

-- ---- the work of a command, its policy named by its file or read from it

-- whether the office is made where there is none: only where a policy comes with the work
abbrev pub makes_office : {P : Type 0} → Work P → Bool
makes_office (Policy policy) = true
makes_office (Ask day) = false
makes_office (Replay None) = false
makes_office (Replay (Some policy)) = true
makes_office (Serve day port count) = false

-- only requests, and records of requests, are read from the input
abbrev pub reads_input : {P : Type 0} → Work P → Bool
reads_input (Policy policy) = false
reads_input (Ask day) = true
reads_input (Replay policy) = true
reads_input (Serve day port count) = false

-- only connections are logged
abbrev pub writes_log : {P : Type 0} → Work P → Bool
writes_log (Policy policy) = false
writes_log (Ask day) = false
writes_log (Replay policy) = false
writes_log (Serve day port count) = true

-- ---- with an open office

-- what is to be done: the work, its policy read
abbrev pub Task : Type 0
Task = Work (Bor PolicyValue)

-- ---- an install

abbrev pub install_of : {T : Type 0} → Result T CommandFault → PolicyValue → Deed
install_of (Ok _) policy = installs policy
install_of (Err _) policy = fails policy

-- ---- one request

-- all that the input had, where that is known, and else what it gave
abbrev pub all_input : Option (List ℕ) → List ℕ → List ℕ
all_input None given = given
all_input (Some input) given = input

-- the bytes that the input gives, and no fewer than it had, are answered with this text
abbrev pub IsAnsweredBy : Date → List ℕ → List Deed → Traffic → Traffic → Type 0
IsAnsweredBy day text deeds was now = (given : List ℕ) × InputGives given was now × (deeds ≡ answers day (all_input was.input given) text ∷ [])

-- Where the input fails, it gave no whole request, and nothing is done or written. Where the output fails, the request is answered and a beginning
-- of the text is written. Where memory runs out, nothing is written.
abbrev pub AsksInPart : Date → CommandFault → List Deed → Traffic → Traffic → Type 0
AsksInPart day (Failed Device (Some Input)) deeds was now =
    ((given : List ℕ) × InputGives given was now × Hears given (Err Truncated)) × (deeds ≡ []) × WritesText [] was now
AsksInPart day (Failed Device (Some Output)) deeds was now = (text : List ℕ) × IsAnsweredBy day text deeds was now × Begins text was now
AsksInPart day (Failed Memory None) deeds was now = ((deeds ≡ []) ⊎ ((text : List ℕ) × IsAnsweredBy day text deeds was now)) × WritesText [] was now
AsksInPart day fault deeds was now = ⊥

-- the text is written, or a device or memory fails
abbrev pub ComesOfAsk : {T : Type 0} → Date → Result T CommandFault → List Deed → Traffic → Traffic → Type 0
ComesOfAsk day (Ok _) deeds was now = (text : List ℕ) × IsAnsweredBy day text deeds was now × WritesText text was now
ComesOfAsk day (Err fault) deeds was now = AsksInPart day fault deeds was now

-- ---- records of requests

-- What the input gives begins with these records, and `rest` follows them; to each there is a text that answers it.
pub record AreAnsweredBy (items : List DeskRequest) (texts : List (List ℕ)) (rest : List ℕ) (was now : Traffic) : Type 0 where
  pub gives : InputGives (request_texts items ++ rest) was now
  pub each : AreRecords items
  pub few : length items ≤ max_records
  pub as_many : length texts ≡ length items

-- the records of the answers are written; or all but the last one, and a beginning of that
abbrev pub PrintsAllOrBegins : List (List ℕ) → Traffic → Traffic → Type 0
PrintsAllOrBegins texts was now =
    WritesText (answer_texts texts) was now
    ⊎ ((answered : ℕ) × (part : List ℕ) × (answered + 1 ≡ length texts) × IsBegun texts part × WritesText (answer_texts (take answered texts) ++ part) was now)

-- the records of the answers are written, or all but the last one
abbrev pub PrintsAllOrBut : List (List ℕ) → Traffic → Traffic → Type 0
PrintsAllOrBut texts was now =
    (answered : ℕ) × ((answered ≡ length texts) ⊎ (answered + 1 ≡ length texts)) × WritesText (answer_texts (take answered texts)) was now

-- Where the input fails, each whole record that it gave is answered, and the answer written. Where the output fails, the last answer isn't handed on, or
-- a beginning of it is written. Where memory runs out, the last answer may not be written.
abbrev pub ReplaysInPart : CommandFault → List (List ℕ) → List ℕ → Traffic → Traffic → Type 0
ReplaysInPart (Failed Device (Some Input)) texts rest was now = BeginsWithNone rest × WritesText (answer_texts texts) was now
ReplaysInPart (Failed Device (Some Output)) texts rest was now = PrintsAllOrBegins texts was now
ReplaysInPart (Failed Memory None) texts rest was now = PrintsAllOrBut texts was now
ReplaysInPart fault texts rest was now = ⊥

-- All that the input gives are records, to its end; or what follows them is no record, and the fault has its number, from 1. The records of the
-- answers are written. Where a device or memory fails, that was so up to some record.
abbrev pub ComesOfReplay : {T : Type 0} → Result T CommandFault → List Deed → Traffic → Traffic → Type 0
ComesOfReplay (Ok _) deeds was now =
    (items : List DeskRequest) × (texts : List (List ℕ)) × AreAnsweredBy items texts [] was now × (deeds ≡ deeds_of_records items texts)
    × IsAtEnd now.input × WritesText (answer_texts texts) was now
ComesOfReplay (Err (BadRecord index)) deeds was now =
    (items : List DeskRequest) × (texts : List (List ℕ)) × (rest : List ℕ) × AreAnsweredBy items texts rest was now × (deeds ≡ deeds_of_records items texts)
    × IsNoRecord now.input (length items) rest × (length items < max_records → BeginsWithNone rest)
    × (index ≡ length items + 1) × WritesText (answer_texts texts) was now
ComesOfReplay (Err (Failed fault cause)) deeds was now =
    (items : List DeskRequest) × (texts : List (List ℕ)) × (rest : List ℕ) × AreAnsweredBy items texts rest was now × (deeds ≡ deeds_of_records items texts)
    × ReplaysInPart (Failed fault cause) texts rest was now
ComesOfReplay (Err (faults.Policy refused)) deeds was now = ⊥

-- the policy is installed first, where there is one; where that fails, nothing is read or written
abbrev pub ReplaysAfter : {T : Type 0} → Option (Bor PolicyValue) → Result T CommandFault → List Deed → Traffic → Traffic → Type 0
ReplaysAfter None result deeds was now = ComesOfReplay result deeds was now
ReplaysAfter (Some policy) result deeds was now =
    ((more : List Deed) × (deeds ≡ installs policy.now ∷ more) × ComesOfReplay result more was now)
    ⊎ (IsErrAnd result IsUninstalled × (deeds ≡ fails policy.now ∷ []) × (now ≡ was))

-- ---- connections

-- the line of the port
abbrev pub listening_text : ℕ → List ℕ
listening_text port = codes "listening " ++ (decimal port ++ 10 ∷ [])

-- the port that is printed is the one that was asked for, and any where that is 0
abbrev pub IsPortFor : ℕ → ℕ → Type 0
IsPortFor port told = (told ≤ 65_535) × (port ≢ 0 → told ≡ port)

-- this number of connections was served, or, where that fails, fewer
abbrev pub AreServedFor : {T : Type 0} → Result T CommandFault → ℕ → List Connection → Type 0
AreServedFor (Ok _) count served = length served ≡ count
AreServedFor (Err _) count served = length served < count

-- a desk that listens: the day on which it serves, its port, and to how many connections
pub record Listening : Type 0 where
  pub day : Date
  pub port : ℕ
  pub count : ℕ

-- what was served over a connection is what its bytes ask, on that day
abbrev pub IsServedItsOwn : Date → Connection → Type 0
IsServedItsOwn day (listening.served bytes item answer whole) = (heard : HeardValue) × Hears bytes (Ok heard) × IsItemOf day heard item
IsServedItsOwn day (listening.refused bytes refusal) = ⊤
IsServedItsOwn day listening.lost = ⊤

-- the log gets the lines of these connections, and of their end, where as many came as were asked for
abbrev pub IsLogOf : {T E : Type 0} → Date → Result T E → ℕ → List Connection → Log → Log → Type 0
IsLogOf day result count connections was now = AllByRecursion (IsServedItsOwn day) connections × IsLogged (all_lines result count connections) was now

-- The port is printed, and then that number of connections is served on that day, one after the other; they are logged. Where the port can't be had,
-- nothing is written; where it can't be printed, a beginning of the line; and no connection is served. Where one can't be accepted, those before it were
-- served.
abbrev pub Listens : {T : Type 0} → Listening → Result T CommandFault → List Deed → Said → Said → Type 0
Listens desk result deeds was now =
    (IsErrAnd result IsUnheard × (deeds ≡ []) × (now ≡ was))
    ⊎ ((IsErrAnd result IsUnsaid × (deeds ≡ []) × IsCutShort (listening_text desk.port) was.output now.output × (now.log ≡ was.log))
    ⊎ ((served : List Connection) × IfErr result IsUnaccepted × AreServedFor result desk.count served × (deeds ≡ deeds_of_connections desk.day served)
    × Appends was.output now.output (listening_text desk.port) × IsLogOf desk.day result desk.count served was.log now.log))

-- ---- a task

-- these deeds are done for the task, and that is its upshot
abbrev pub ComesOfTask : {T : Type 0} → Task → Upshot T → List Deed → Type 0
ComesOfTask (Policy policy) upshot deeds =
    IfErr upshot.result IsUninstalled × (deeds ≡ install_of upshot.result policy.now ∷ []) × (upshot.now ≡ upshot.was)
ComesOfTask (Ask day) upshot deeds = ComesOfAsk day upshot.result deeds upshot.was.streams upshot.now.streams × IsUnlogged upshot
ComesOfTask (Replay policy) upshot deeds = ReplaysAfter policy upshot.result deeds upshot.was.streams upshot.now.streams × IsUnlogged upshot
ComesOfTask (Serve day port count) upshot deeds =
    (upshot.now.streams.input ≡ upshot.was.streams.input)
    × ((told : ℕ) × IsPortFor port told × Listens (record { day = day; port = told; count = count }) upshot.result deeds (said_in upshot.was) (said_in upshot.now))

-- the task is done with the office over a store
abbrev pub DoesTask : {S T : Type 0} → Ghosts S → Task → Upshot T → Held S → Held S → Type 0
DoesTask g task upshot old new = (deeds : List Deed) × ComesOfTask task upshot deeds × AreDone g deeds old new
