-- What serving one request does: what is heard of its bytes, what the office does, and the text that answers. `old` is the office before a
-- call and `new` the office after it. The rules are Depot's own.
use Rattle.std.specs.Prelude.{◌≡◌, ℕ, List, Bool, MatchBool, Option, None, Some, Ok, Err}
use Rattle.jiff.specs.Types.{Date}
use Rattle.sqlite.specs.Held.{Held, state}
use Rattle.sqlite.specs.State.{State, HasCleanDisk, Survives}
use Rattle.sqlite.specs.Store.{Ghosts}
use Rattle.office_core.specs.declared.answer.Answer.{Answer}
use Rattle.office_core.specs.declared.request.Request.{Request}
use Rattle.office_history.specs.Runs.{Item}
use Rattle.office_engine.specs.Storing.{CommitsTo, IsTurn, after_item}
use Rattle.desk_routes.specs.declared.refusal.DeskRefusal.{DeskRefusal}
use Rattle.desk_hearing.specs.Asking.{HeardValue, ask_and_bag}
use Rattle.desk_hearing.specs.Hearing.{Hears}
use Rattle.desk_answers.specs.Answers.{answer_text, refusal_text}
use Rattle.desk_log.specs.Notes.{note_of}
use Rattle.desk_log.specs.declared.note.OfficeNote.{OfficeNote}

-- the item of a run that asks what was heard, on that day
pub record IsItemOf (day : Date) (heard : HeardValue) (item : Item) : Type 0 where
  pub on_day : item.0 ≡ day
  pub caller : item.1.now ≡ heard.caller
  pub asked : ask_and_bag item.2 ≡ (heard.request, heard.bag)

-- the office serves what was heard, with this answer: as one turn of a run does, on an honest disk; what a crash may leave then is the
-- office before or after it
pub record IsHeardServed (day : Date) (heard : HeardValue) (old new : State) (answer : Answer) : Type 0 where
  pub item : Item
  pub asks : IsItemOf day heard item
  pub clean : HasCleanDisk new → HasCleanDisk old
  pub survives : Survives old new (CommitsTo old (after_item item))
  pub turn : HasCleanDisk new → IsTurn old new item answer

-- the office serves what the bytes ask
abbrev pub ServesBytes : Date → List ℕ → State → State → Answer → Type 0
ServesBytes day bytes old new answer = (heard : HeardValue) × Hears bytes (Ok heard) × IsHeardServed day heard old new answer

-- a request as it comes to the desk: the day on which it is served, and its bytes
pub record DeskRequest : Type 0 where
  pub day : Date
  pub bytes : List ℕ

-- what answers it: a text, and whether the office served the request, or else the desk refused it
pub record DeskReply : Type 0 where
  pub text : List ℕ
  pub done : Bool

-- the request is answered with this text by the office, or, where the desk refuses it, by the desk, and then the office is as it was
abbrev pub IsAnswered : {S : Type 0} → Ghosts S → DeskRequest → DeskReply → Held S → Held S → Type 0
IsAnswered g request reply old new =
    MatchBool reply.done
    ((answer : Answer) × ServesBytes request.day request.bytes (state g old) (state g new) answer × (reply.text ≡ answer_text answer))
    ((refusal : DeskRefusal) × Hears request.bytes (Err refusal) × (new ≡ old) × (reply.text ≡ refusal_text refusal))

-- ---- the same, and what is noted of the office's answer

-- the request that the office served
abbrev pub request_in : {day : Date} {heard : HeardValue} {old new : State} {answer : Answer} → IsHeardServed day heard old new answer → Request
request_in it = it.item.2

abbrev pub ServesNoted : DeskRequest → Option OfficeNote → State → State → Answer → Type 0
ServesNoted request note old new answer =
    (serves : ServesBytes request.day request.bytes old new answer) × (note ≡ Some (note_of (request_in serves.2) answer))

-- what answers a request, and what is noted of the office's answer
pub record NotedReply : Type 0 where
  pub text : List ℕ
  pub done : Bool
  pub note : Option OfficeNote

-- of what the desk refuses nothing is noted
abbrev pub IsNoted : {S : Type 0} → Ghosts S → DeskRequest → NotedReply → Held S → Held S → Type 0
IsNoted g request reply old new =
    MatchBool reply.done
    ((answer : Answer) × ServesNoted request reply.note (state g old) (state g new) answer × (reply.text ≡ answer_text answer))
    ((refusal : DeskRefusal) × Hears request.bytes (Err refusal) × (new ≡ old) × (reply.text ≡ refusal_text refusal) × (reply.note ≡ None))
