-- Why a whole input is refused: the steps before the refusal passed, and its own fails. RFC 9112, section 2.1, has the message: a head and a body. The steps and their order are Depot's own.
use Rattle.std.specs.Prelude.{◌≡◌, ◌<◌, ◌≤◌, ◌⊎◌, ℕ, List, ◌++◌, length, Ok}
use Rattle.desk_heads.specs.Bounds.{max_head}
use Rattle.desk_heads.specs.Ends.{IsHeadEnd, HasNoHead}
use Rattle.desk_heads.specs.Heads.{HeadContents, Judges}
use Rattle.desk_heads.specs.Steps.{AppliesFirst}
use Rattle.desk_heads.specs.declared.refusal.HeadRefusal.{HeadRefusal}
use Rattle.desk_heads.specs.declared.refusal.HeadRefusal.TheVariants as heads
use Rattle.desk_routes.specs.Resources.{SpellsResource}
use Rattle.desk_routes.specs.Table.{AsksFor, IsOtherMethod}
use Rattle.desk_routes.specs.Targets.{path_part, query_part}
use Rattle.desk_routes.specs.declared.resource.PathPattern.{PathPattern}
use Rattle.desk_routes.specs.declared.resource.Resource.{Resource}
use Rattle.desk_routes.specs.declared.refusal.DeskRefusal.{DeskRefusal}
use Rattle.desk_routes.specs.declared.refusal.DeskRefusal.TheVariants.{TooLarge, Truncated, BadHead, Chunked, BadLength, TwoCallers, NoRoute, Method, BadQuery, BadBody}
use Rattle.desk_routes.specs.declared.route.Route.{Route}
use Rattle.desk_hearing.specs.Asking.{QueryAsks, BodyAsks}
use Rattle.desk_hearing.specs.declared.owned_request.OwnedRequest.{OwnedRequest}
use Rattle.desk_hearing.specs.declared.question.Question.{Question}

-- ---- the steps that pass, each with those before it

-- the input begins with this head, and the rest follows it
pub record BeginsWithHead (input head rest : List ℕ) : Type 0 where
  pub parts : input ≡ head ++ rest
  pub is : IsHeadEnd input (length head)

-- its head is taken, and says this
pub record TakesHead (input : List ℕ) (contents : HeadContents) (rest : List ℕ) : Type 0 where
  pub head : List ℕ
  pub begins : BeginsWithHead input head rest
  pub says : Judges head (Ok contents)

-- its method and its path ask for this route
pub record TakesRoute (input : List ℕ) (contents : HeadContents) (route : Route) (rest : List ℕ) : Type 0 where
  pub head : TakesHead input contents rest
  pub asks : AsksFor contents.method (path_part contents.target) route

-- its query is as the route says, and asks this
pub record TakesQuery (input : List ℕ) (contents : HeadContents) (question : Question) (rest : List ℕ) : Type 0 where
  pub route : Route
  pub found : TakesRoute input contents route rest
  pub query : QueryAsks route (query_part contents.target) question

-- its body has come
pub record HasBody (input : List ℕ) (question : Question) (body : List ℕ) : Type 0 where
  pub contents : HeadContents
  pub following : List ℕ
  pub asks : TakesQuery input contents question (body ++ following)
  pub body_length : length body ≡ contents.body_length

-- ---- the step that fails, with those before it, which pass

-- no head ends within the most bytes of one, and there are as many
abbrev pub HasHeadTooFar : List ℕ → Type 0
HasHeadTooFar input = (max_head ≤ length input) × HasNoHead input

-- no head has ended, and one still may
abbrev pub EndsInHead : List ℕ → Type 0
EndsInHead input = (length input < max_head) × HasNoHead input

-- its head is refused for this, the first reason that applies
abbrev pub RefusesHead : List ℕ → HeadRefusal → Type 0
RefusesHead input refusal = (head rest : List ℕ) × BeginsWithHead input head rest × AppliesFirst head refusal

-- its path names nothing
abbrev pub NamesNothing : List ℕ → Type 0
NamesNothing input =
    (contents : HeadContents) × (rest : List ℕ) × TakesHead input contents rest × ((resource : Resource) → SpellsResource (path_part contents.target) resource → ⊥)

-- its path names a resource of this pattern, which doesn't take the method
abbrev pub RefusesMethod : List ℕ → PathPattern → Type 0
RefusesMethod input pattern =
    (contents : HeadContents) × (rest : List ℕ) × TakesHead input contents rest × IsOtherMethod contents.method (path_part contents.target) pattern

-- its query isn't as the route says
abbrev pub RefusesQuery : List ℕ → Type 0
RefusesQuery input =
    (contents : HeadContents) × (route : Route) × (rest : List ℕ) × TakesRoute input contents route rest
    × ((question : Question) → QueryAsks route (query_part contents.target) question → ⊥)

-- its body hasn't come
abbrev pub EndsInBody : List ℕ → Type 0
EndsInBody input =
    (contents : HeadContents) × (question : Question) × (rest : List ℕ) × TakesQuery input contents question rest × (length rest < contents.body_length)

-- its body isn't as the route says
abbrev pub RefusesBody : List ℕ → Type 0
RefusesBody input = (question : Question) × (body : List ℕ) × HasBody input question body × ((ask : OwnedRequest) → BodyAsks question body ask → ⊥)

-- ---- each refusal

abbrev pub IsRefused : List ℕ → DeskRefusal → Type 0
IsRefused input TooLarge = HasHeadTooFar input ⊎ RefusesHead input heads.TooLarge
IsRefused input Truncated = EndsInHead input ⊎ EndsInBody input
IsRefused input BadHead = RefusesHead input heads.BadHead
IsRefused input Chunked = RefusesHead input heads.Chunked
IsRefused input BadLength = RefusesHead input heads.BadLength
IsRefused input TwoCallers = RefusesHead input heads.TwoCallers
IsRefused input NoRoute = NamesNothing input
IsRefused input (Method pattern) = RefusesMethod input pattern
IsRefused input BadQuery = RefusesQuery input
IsRefused input BadBody = RefusesBody input
