-- What is said of a refusal of the desk: its status, its body, and the methods that the target takes where the method was wrong. Which refusal has which status is Depot's own rule.
use Rattle.std.specs.Prelude.{ℕ, List, [], ◌∷◌, ◌++◌, codes}
use Rattle.serde_json.specs.Data.{Data}
use Rattle.desk_routes.specs.Table.{method_text, methods_of}
use Rattle.desk_routes.specs.declared.method.Method.{Method}
use Rattle.desk_routes.specs.declared.refusal.DeskRefusal.{DeskRefusal}
use Rattle.desk_routes.specs.declared.refusal.DeskRefusal.TheVariants.{TooLarge, Truncated, BadHead, Chunked, BadLength, TwoCallers, NoRoute, Method as WrongMethod, BadQuery, BadBody}
use Rattle.desk_answers.specs.Refusals.{name_data}
use Rattle.desk_answers.specs.declared.status.Status.{Status}
use Rattle.desk_answers.specs.declared.status.Status.TheVariants as statuses

-- the status of each refusal and its name
abbrev pub status_and_name : DeskRefusal → Status × List ℕ
status_and_name TooLarge = (statuses.ContentTooLarge, codes "TooLarge")
status_and_name Truncated = (statuses.BadRequest, codes "Truncated")
status_and_name BadHead = (statuses.BadRequest, codes "BadHead")
status_and_name Chunked = (statuses.BadRequest, codes "Chunked")
status_and_name BadLength = (statuses.BadRequest, codes "BadLength")
status_and_name TwoCallers = (statuses.BadRequest, codes "TwoCallers")
status_and_name NoRoute = (statuses.NotFound, codes "NoRoute")
status_and_name (WrongMethod pattern) = (statuses.MethodNotAllowed, codes "Method")
status_and_name BadQuery = (statuses.BadRequest, codes "BadQuery")
status_and_name BadBody = (statuses.BadRequest, codes "BadBody")

abbrev pub desk_status : DeskRefusal → Status
desk_status refusal = (status_and_name refusal).0

abbrev pub desk_name : DeskRefusal → List ℕ
desk_name refusal = (status_and_name refusal).1

abbrev pub desk_data : DeskRefusal → Data
desk_data refusal = name_data (desk_name refusal)

-- methods with `, ` between them
abbrev pub methods_text : List Method → List ℕ
methods_text [] = []
methods_text (method ∷ []) = method_text method
methods_text (method ∷ next ∷ more) = method_text method ++ (codes ", " ++ methods_text (next ∷ more))

-- RFC 9110, section 10.2.1: the field `Allow` names the methods that the target takes. It is there where the method was wrong (section 15.5.6), and nowhere else.
abbrev pub allow_fields : DeskRefusal → List (List ℕ × List ℕ)
allow_fields (WrongMethod pattern) = (codes "Allow", methods_text (methods_of pattern)) ∷ []
allow_fields refusal = []

-- fields, each by its name and its value, on a line of its own
abbrev pub lines_text : List (List ℕ × List ℕ) → List ℕ
lines_text [] = []
lines_text (field ∷ fields) = field.0 ++ (codes ": " ++ (field.1 ++ (codes "\r\n" ++ lines_text fields)))

abbrev pub allow_line : DeskRefusal → List ℕ
allow_line refusal = lines_text (allow_fields refusal)
