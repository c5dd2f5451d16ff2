-- What a run does for each subcommand, what it prints to standard error, and how it ends. `was` is what is seen of the three streams before the run and
-- `now` after it; `OnStore` says what comes of a command on a store, and `alone` that no store was opened.
use Rattle.std.specs.Prelude.{◌≡◌, ◌⊎◌, ℕ, Bool, false, List, Option, None, Some, IfSome, Result, Ok, Err, codes, is_some, option_map, string_bytes, unwrap_or}
use Rattle.std.specs.Str.{bytes_eq}
use denote.Ref.{Bor}
use Rattle.sqlite.specs.Recovery.{Image}
use Rattle.sqlite_disk.specs.declared.Disk.{Ghosts}
use Rattle.commands.specs.declared.ending.Ending.{Ending}
use Rattle.desk_devices.specs.declared.counted.Counted.{Counted}
use Rattle.command_line.specs.Lines.{Asks}
use Rattle.command_line.specs.declared.line.Line.{Line}
use Rattle.command_line.specs.declared.line.Line.TheVariants.{Check, Explain, Pack, Unpack, Policy, Ask, Replay, Serve}
use Rattle.office_commands.specs.Traffic.{Upshot}
use Rattle.office_commands.specs.Tasks.{reads_input as work_reads_input, writes_log as work_writes_log}
use Rattle.office_commands.specs.Works.{ComesOfWork}
use Rattle.office_stores.specs.declared.done.Done.{Done}
use Rattle.office_stores.specs.declared.fault.CommandFault.{CommandFault}
use Rattle.office_commands.specs.declared.work.Work.{Work}
use Rattle.office_commands.specs.declared.work.Work.TheVariants as works
use Rattle.program.specs.Answering.{PrintsIfAny, IsExplained, IsJudged, IsPackSaid, IsUnpackSaid}
use Rattle.program.specs.Streams.{Course, Seen, Stream, traffic}
use Rattle.program.specs.Telling.{TellsMemory, TellsOf, TellsWhy}
use Rattle.program.specs.declared.stopped.Stopped.{Stopped}
use Rattle.program.specs.declared.stopped.Stopped.TheVariants.{Folder, Output, Store, Unread}

-- ---- what is done

-- work whose policy is named by its file
abbrev pub FileWork : Type 0
FileWork = Work (Bor (List ℕ))

-- such work, on the store of this name
pub record StoreWork : Type 0 where
  pub store : List ℕ
  pub work : FileWork

-- what comes of work on a store, with this upshot
abbrev pub CommandOn : Type 1
CommandOn = StoreWork → Upshot Done → Type 0

-- where the store's files held this at first
abbrev pub on_store : {D : Type 0} → Ghosts D → Image → Type 0 → CommandOn
on_store g first alone = λ asked. ComesOfWork g (record { name = asked.store; first = first }) asked.work alone

-- a command on a store ended so
abbrev pub IsEndOnStore : (Result Done CommandFault → Type 0) → Result Done Stopped → Type 0
IsEndOnStore Comes (Ok done) = Comes (Ok done)
IsEndOnStore Comes (Err (Store fault)) = Comes (Err fault)
IsEndOnStore Comes (Err (Unread trouble)) = ⊥
IsEndOnStore Comes (Err (Folder failed)) = ⊥
IsEndOnStore Comes (Err (Output error)) = ⊥

abbrev pub DoesOnStore : {R O E : Type 0} → CommandOn → StoreWork → Result Done Stopped → Seen R O (Counted E) → Seen R O (Counted E) → Type 0
DoesOnStore OnStore asked result was now = IsEndOnStore (λ came. OnStore asked (record { result = came; was = traffic was; now = traffic now })) result

-- the work on a store that a line asks for
abbrev pub work_of : Line → Option StoreWork
work_of (Policy store policy) = Some (record { store = store.now; work = works.Policy policy })
work_of (Ask store day) = Some (record { store = store.now; work = works.Ask day })
work_of (Replay policy store) = Some (record { store = store.now; work = works.Replay policy })
work_of (Serve port count store day) = Some (record { store = store.now; work = works.Serve day port count })
work_of (Check file) = None
work_of (Explain asked) = None
work_of (Pack folder file) = None
work_of (Unpack file folder) = None

-- What the line asks for is done.
abbrev pub DoesLine : {R O E : Type 0} → CommandOn → Line → Result Done Stopped → Seen R O (Counted E) → Seen R O (Counted E) → Type 0
DoesLine OnStore (Check file) result was now = PrintsIfAny (IsJudged file.now was.input now.input) result was.output now.output
DoesLine OnStore (Explain asked) result was now = PrintsIfAny (IsExplained asked) result was.output now.output
DoesLine OnStore (Pack folder file) result was now = PrintsIfAny IsPackSaid result was.output now.output
DoesLine OnStore (Unpack file folder) result was now = PrintsIfAny IsUnpackSaid result was.output now.output
DoesLine OnStore line result was now = IfSome (work_of line) (λ asked. DoesOnStore OnStore asked result was now)

-- the line explains a policy, and names no day
abbrev pub IsUndated : Line → Type 0
IsUndated (Explain asked) = asked.day ≡ None
IsUndated line = ⊥

-- the words ask for such a line
abbrev pub NameNoDay : List (List ℕ) → Type 0
NameNoDay words = (line : Line) × Asks words line × IsUndated line

-- ---- what is left alone

-- the input is read for a check of `-`, and for work that reads it
abbrev pub reads_input : Line → Bool
reads_input (Check file) = bytes_eq file.now (codes "-")
reads_input line = unwrap_or (option_map (λ asked. work_reads_input asked.work) (work_of line)) false

-- of the connections that are served lines are printed to standard error, and of nothing else as a line is done
abbrev pub writes_log : Line → Bool
writes_log line = unwrap_or (option_map (λ asked. work_writes_log asked.work) (work_of line)) false

abbrev pub is_on_store : Line → Bool
is_on_store line = is_some (work_of line)

-- ---- a run

-- why the answer is what it is is printed to standard error, where there is a reason; or why the run fails
abbrev pub IsTold : {E : Type 0} → Result Done Stopped → Stream E → Stream E → Ending → Type 0
IsTold (Ok done) was now ending = TellsWhy (option_map string_bytes done.reason) done.ending was now ending
IsTold (Err stopped) was now ending = TellsOf stopped was now ending

-- What the line asks for is done with this result: standard error is as it was, or has lines on connections that are served, and then gets the result.
pub record Comes {R O E : Type 0} (OnStore : CommandOn) (alone : Type 0) (line : Line) (run : Course R O (Counted E)) : Type 0 where
  pub result : Result Done Stopped
  pub logged : Stream (Counted E)
  pub does : DoesLine OnStore line result run.was (record run.now { error = logged })
  pub unlogged : writes_log line ≡ false → logged ≡ run.was.error
  pub told : IsTold result logged run.now.error run.ending
  pub input : reads_input line ≡ false → run.now.input ≡ run.was.input
  pub store : is_on_store line ≡ false → alone

-- There was no memory to read the words.
pub record AreWordsUnread {R O E : Type 0} (alone : Type 0) (run : Course R O E) : Type 0 where
  pub told : TellsMemory run.was.error run.now.error run.ending
  pub input : run.now.input ≡ run.was.input
  pub output : run.now.output ≡ run.was.output
  pub store : alone

-- the words ask for a line, and it comes to this; or there was no memory to read them
abbrev pub ComesOfWords : {R O E : Type 0} → CommandOn → Type 0 → List (List ℕ) → Course R O (Counted E) → Type 0
ComesOfWords OnStore alone words run = ((line : Line) × Asks words line × Comes OnStore alone line run) ⊎ AreWordsUnread alone run
