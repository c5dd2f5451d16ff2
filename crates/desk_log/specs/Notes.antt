-- What is noted of a request that the office served. The rules are Depot's own.
use Rattle.office_core.specs.declared.answer.Answer.{Answer}
use Rattle.office_core.specs.declared.answer.Answer.TheVariants as answers
use Rattle.office_core.specs.declared.refusal.Refusal.TheVariants as refusals
use Rattle.office_core.specs.declared.request.Request.{Request}
use Rattle.office_core.specs.declared.request.Request.TheVariants.{List, Record, Holds, DownloadBag, DownloadFile, Audit, DueList}
use Rattle.desk_log.specs.declared.note.OfficeFailure.TheVariants.{Memory, Store}
use Rattle.desk_log.specs.declared.note.OfficeNote.{OfficeNote}
use Rattle.desk_log.specs.declared.note.OfficeOutcome.{OfficeOutcome}
use Rattle.desk_log.specs.declared.note.OfficeOutcome.TheVariants.{Failed, Refused, Succeeded}
use Rattle.desk_log.specs.declared.note.RequestKind.{RequestKind}
use Rattle.desk_log.specs.declared.note.RequestKind.TheVariants.{Change, Reading}

-- whether a request asks for a change, or only reads. One that is not a reading listed here asks for a change.
abbrev pub kind_of : Request → RequestKind
kind_of (List collection class) = Reading
kind_of (Record deposit) = Reading
kind_of (Holds deposit) = Reading
kind_of (DownloadBag deposit) = Reading
kind_of (DownloadFile deposit path) = Reading
kind_of (Audit deposit) = Reading
kind_of DueList = Reading
kind_of request = Change

-- what came of a request that was answered so: memory or the store failed, or it was refused for another reason, or it succeeded
abbrev pub outcome_of : Answer → OfficeOutcome
outcome_of (answers.Refused refusals.Memory) = Failed Memory
outcome_of (answers.Refused refusals.Store) = Failed Store
outcome_of (answers.Refused refusal) = Refused
outcome_of answer = Succeeded

abbrev pub note_of : Request → Answer → OfficeNote
note_of request answer = record { kind = kind_of request; outcome = outcome_of answer }
