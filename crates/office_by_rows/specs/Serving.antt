-- What a request does to the rows of an office: what is answered, and which rows are left. None where the rows tell nothing: no accepted
-- change writes such rows, and the answer is a failure of the store.
use Rattle.std.specs.Prelude.{Option, Some, None}
use Rattle.office_core.specs.FirstOf.{◌>>=◌}
use Rattle.office_core.specs.declared.answer.Answer.{Answer}
use Rattle.office_core.specs.declared.answer.Answer.TheVariants as answers
use Rattle.office_core.specs.declared.refusal.Refusal.{Refusal}
use Rattle.office_core.specs.declared.request.Request.{Request}
use Rattle.office_rows.specs.Rows.{Tables}
use Rattle.office_by_rows.specs.Asking.{Visit}
use Rattle.office_by_rows.specs.Refusals.{refusal}
use Rattle.office_by_rows.specs.Answers.{allowed_answer}
use Rattle.office_by_rows.specs.Changes.{allowed_rows}

-- a refusal leaves the rows as they are
abbrev pub serve_unless : Option Refusal → Tables → Visit → Request → Option (Answer × Tables)
serve_unless (Some why) t visit request = Some (answers.Refused why, t)
serve_unless None t visit request = do
  given ← allowed_answer t visit request
  next ← allowed_rows t visit request
  Some (given, next)

abbrev pub serve : Tables → Visit → Request → Option (Answer × Tables)
serve t visit request = do
  refused ← refusal t visit request
  serve_unless refused t visit request
