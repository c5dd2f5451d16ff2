-- The statuses that answers have: the codes and the reason phrases of RFC 9110, section 15.
use Rattle.std.specs.Prelude.{ℕ, List, ◌++◌, codes, decimal}
use Rattle.desk_answers.specs.declared.status.Status.{Status}
use Rattle.desk_answers.specs.declared.status.Status.TheVariants.{Success, Created, BadRequest, Forbidden, NotFound, MethodNotAllowed, Conflict, Gone, ContentTooLarge, UnprocessableContent, ServiceUnavailable}

-- the code of each status and its reason phrase
abbrev pub code_and_phrase : Status → ℕ × List ℕ
code_and_phrase Success = (200, codes "OK")
code_and_phrase Created = (201, codes "Created")
code_and_phrase BadRequest = (400, codes "Bad Request")
code_and_phrase Forbidden = (403, codes "Forbidden")
code_and_phrase NotFound = (404, codes "Not Found")
code_and_phrase MethodNotAllowed = (405, codes "Method Not Allowed")
code_and_phrase Conflict = (409, codes "Conflict")
code_and_phrase Gone = (410, codes "Gone")
code_and_phrase ContentTooLarge = (413, codes "Content Too Large")
code_and_phrase UnprocessableContent = (422, codes "Unprocessable Content")
code_and_phrase ServiceUnavailable = (503, codes "Service Unavailable")

abbrev pub code_of : Status → ℕ
code_of status = (code_and_phrase status).0

abbrev pub phrase_of : Status → List ℕ
phrase_of status = (code_and_phrase status).1

-- the code and the phrase, as a status line has them
abbrev pub status_text : Status → List ℕ
status_text status = decimal (code_of status) ++ (codes " " ++ phrase_of status)
