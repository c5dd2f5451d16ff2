-- An input that is a request, in its parts: a head and a body (RFC 9112, section 2.1), and what follows them, which the desk passes over by a rule of its own.
use Rattle.std.specs.Prelude.{◌≡◌, ℕ, List, ◌++◌, length, Ok}
use Rattle.desk_heads.specs.Ends.{IsHeadEnd}
use Rattle.desk_heads.specs.Heads.{HeadContents, Judges}
use Rattle.desk_routes.specs.Table.{AsksFor}
use Rattle.desk_routes.specs.Targets.{path_part, query_part}
use Rattle.desk_routes.specs.declared.route.Route.{Route}
use Rattle.desk_hearing.specs.Asking.{HeardValue, bag_in, caller_text, QueryAsks, BodyAsks}
use Rattle.desk_hearing.specs.declared.question.Question.{Question}

-- the input begins with a head and as long a body as the head announces, which ask this together
pub record SpellsRequest (input : List ℕ) (heard : HeardValue) : Type 0 where
  pub front : List ℕ
  pub body : List ℕ
  pub following : List ℕ
  pub parts : input ≡ front ++ (body ++ following)
  pub head : IsHeadEnd input (length front)
  pub contents : HeadContents
  pub says : Judges front (Ok contents)
  pub caller : heard.caller ≡ caller_text contents.caller
  pub route : Route
  pub asks : AsksFor contents.method (path_part contents.target) route
  pub question : Question
  pub query : QueryAsks route (query_part contents.target) question
  pub body_length : length body ≡ contents.body_length
  pub asked : BodyAsks question body heard.request
  pub bag : heard.bag ≡ bag_in heard.request body
