-- What the steps of the code answer, unless memory runs out: Depot's own, by the rules of `Hearing`.
use Rattle.std.specs.Prelude.{◌≡◌, ℕ, List, [], Result, Ok, Err, ⊤, IsUtf8}
use Rattle.desk_routes.specs.declared.refusal.DeskRefusal.TheVariants.{BadQuery, BadBody}
use Rattle.desk_routes.specs.declared.route.Route.{Route}
use Rattle.desk_routes.specs.declared.route.Route.TheVariants as routes
use Rattle.desk_hearing.specs.Asking.{HasNoPair, QueryAsks, BodyAsks}
use Rattle.desk_hearing.specs.Hearing.{Hearing, HearsRest, HearsFront}
use Rattle.desk_hearing.specs.declared.owned_request.OwnedRequest.{OwnedRequest}
use Rattle.desk_hearing.specs.declared.fault.JudgingFault.{JudgingFault}
use Rattle.desk_hearing.specs.declared.fault.JudgingFault.TheVariants.{Refused, Memory}
use Rattle.desk_hearing.specs.declared.judging.Announced.{Announced}
use Rattle.desk_hearing.specs.declared.question.Question.{Question}
use Rattle.desk_hearing.specs.declared.question.Question.TheVariants as questions

-- the query of a route asks this, or nothing
abbrev pub AnswersQuery : Route → List ℕ → Result Question JudgingFault → Type 0
AnswersQuery route query (Ok question) = QueryAsks route query question
AnswersQuery route query (Err (Refused refusal)) = (refusal ≡ BadQuery) × ((question : Question) → QueryAsks route query question → ⊥)
AnswersQuery route query (Err Memory) = ⊤

-- the body asks this, or nothing
abbrev pub AnswersBody : Question → List ℕ → Result OwnedRequest JudgingFault → Type 0
AnswersBody question body (Ok ask) = BodyAsks question body ask
AnswersBody question body (Err (Refused refusal)) = (refusal ≡ BadBody) × ((ask : OwnedRequest) → BodyAsks question body ask → ⊥)
AnswersBody question body (Err Memory) = ⊤

-- whatever follows the front: it is heard as its body is, or it is refused
abbrev pub AnswersFront : List ℕ → Result Announced JudgingFault → Type 0
AnswersFront front (Ok announced) = (rest : List ℕ) (hearing : Hearing)
    → HearsRest announced.caller announced.question announced.body_length rest hearing → HearsFront front rest hearing
AnswersFront front (Err (Refused refusal)) = (rest : List ℕ) → HearsFront front rest (Err refusal)
AnswersFront front (Err Memory) = ⊤

-- ---- what is refused however little memory there is

-- no pair, unless the route takes keys
abbrev pub AllowsQuery : Route → List ℕ → Type 0
AllowsQuery routes.Deposit query = ⊤
AllowsQuery routes.List query = ⊤
AllowsQuery route query = HasNoPair query

-- a pair on a route that takes no keys
abbrev pub IsRefusedQuery : Route → List ℕ → Type 0
IsRefusedQuery route query = AllowsQuery route query → ⊥

-- a body that is no text where JSON is asked for, or one where none is
abbrev pub IsRefusedBody : Question → List ℕ → Type 0
IsRefusedBody (questions.Deposit query) body = ⊥
IsRefusedBody (questions.Whole known) body = body ≡ [] → ⊥
IsRefusedBody question body = IsUtf8 body → ⊥
