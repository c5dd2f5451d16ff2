-- The bytes of an answer of the office, and of a refusal of the desk: responses (RFC 9112, section 2.1) with a status, fields and a body. Which ones is Depot's own rule.
use Rattle.std.specs.Prelude.{ℕ, List, []}
use Rattle.office_core.specs.declared.answer.Answer.{Answer}
use Rattle.desk_routes.specs.declared.refusal.DeskRefusal.{DeskRefusal}
use Rattle.desk_answers.specs.Responses.{response_text, json}
use Rattle.desk_answers.specs.Bodies.{status_of, content_of}
use Rattle.desk_answers.specs.DeskRefusals.{desk_status, desk_data, allow_line}

abbrev pub answer_text : Answer → List ℕ
answer_text answer = response_text (status_of answer) [] (content_of answer)

abbrev pub refusal_text : DeskRefusal → List ℕ
refusal_text refusal = response_text (desk_status refusal) (allow_line refusal) (json (desk_data refusal))
