-- What is heard of a whole input: who asks what, or the first refusal in the order of the steps. RFC 9112, section 2.1, has the message: a head and a body. The steps and their order are Depot's own.
use Rattle.std.specs.Prelude.{◌≡◌, ◌≤◌, ◌<◌, ◌⊎◌, ℕ, List, length, take, drop, Option, Result, Ok, Err}
use Rattle.desk_heads.specs.Ends.{head_at}
use Rattle.desk_heads.specs.declared.head_end.HeadEnd.{HeadEnd}
use Rattle.desk_heads.specs.declared.head_end.HeadEnd.TheVariants as ends
use Rattle.desk_heads.specs.Heads.{HeadContents, Judges}
use Rattle.desk_heads.specs.declared.refusal.HeadRefusal.{HeadRefusal}
use Rattle.desk_heads.specs.declared.refusal.HeadRefusal.TheVariants as heads
use Rattle.desk_routes.specs.Table.{route_of}
use Rattle.desk_routes.specs.Targets.{path_part, query_part}
use Rattle.desk_routes.specs.declared.refusal.DeskRefusal.{DeskRefusal}
use Rattle.desk_routes.specs.declared.refusal.DeskRefusal.TheVariants.{TooLarge, Truncated, BadHead, Chunked, BadLength, TwoCallers, BadQuery, BadBody}
use Rattle.desk_routes.specs.declared.route.Route.{Route}
use Rattle.desk_hearing.specs.Asking.{HeardValue, heard_from, QueryAsks, BodyAsks}
use Rattle.desk_hearing.specs.declared.owned_request.OwnedRequest.{OwnedRequest}
use Rattle.desk_hearing.specs.declared.question.Question.{Question}

-- who asks what, or why that is refused
abbrev pub Hearing : Type 0
Hearing = Result HeardValue DeskRefusal

-- a refusal of a head, as the desk answers it
abbrev pub refusal_of_head : HeadRefusal → DeskRefusal
refusal_of_head heads.BadHead = BadHead
refusal_of_head heads.Chunked = Chunked
refusal_of_head heads.BadLength = BadLength
refusal_of_head heads.TooLarge = TooLarge
refusal_of_head heads.TwoCallers = TwoCallers

-- the body: it asks something, or is refused
abbrev pub HearsBody : Option (List ℕ) → Question → List ℕ → Hearing → Type 0
HearsBody caller question body hearing =
    ((ask : OwnedRequest) × BodyAsks question body ask × (hearing ≡ Ok (heard_from caller ask body)))
    ⊎ (((ask : OwnedRequest) → BodyAsks question body ask → ⊥) × (hearing ≡ Err BadBody))

-- the end of the body: it has come, or the input ends before; bytes after the body are ignored
abbrev pub HearsRest : Option (List ℕ) → Question → ℕ → List ℕ → Hearing → Type 0
HearsRest caller question count rest hearing =
    ((count ≤ length rest) × HearsBody caller question (take count rest) hearing)
    ⊎ ((length rest < count) × (hearing ≡ Err Truncated))

-- the query: it is as the route says, or is refused
abbrev pub HearsQuery : HeadContents → Route → List ℕ → Hearing → Type 0
HearsQuery contents route rest hearing =
    ((question : Question) × QueryAsks route (query_part contents.target) question × HearsRest contents.caller question contents.body_length rest hearing)
    ⊎ (((question : Question) → QueryAsks route (query_part contents.target) question → ⊥) × (hearing ≡ Err BadQuery))

-- the route that a head asks for, or why there is none
unfoldable pub route_of_head : HeadContents → Result Route DeskRefusal
route_of_head contents = route_of contents.method (path_part contents.target)

-- the route: there is one of this method and path, or it is refused
abbrev pub HearsRoute : HeadContents → Result Route DeskRefusal → List ℕ → Hearing → Type 0
HearsRoute contents (Ok route) rest hearing = HearsQuery contents route rest hearing
HearsRoute contents (Err refusal) rest hearing = hearing ≡ Err refusal

-- the head: it says something, or is refused (no head, chunks, the body's length, two callers)
abbrev pub HearsHead : Result HeadContents HeadRefusal → List ℕ → Hearing → Type 0
HearsHead (Ok contents) rest hearing = HearsRoute contents (route_of_head contents) rest hearing
HearsHead (Err refusal) rest hearing = hearing ≡ Err (refusal_of_head refusal)

-- the front that is the head, and what follows it
abbrev pub HearsFront : List ℕ → List ℕ → Hearing → Type 0
HearsFront front rest hearing = (judgement : Result HeadContents HeadRefusal) × Judges front judgement × HearsHead judgement rest hearing

-- the end of the head: it is found, or is too far, or hasn't come
abbrev pub HearsAt : HeadEnd → List ℕ → Hearing → Type 0
HearsAt (ends.Found n) input hearing = HearsFront (take n input) (drop n input) hearing
HearsAt ends.TooLarge input hearing = hearing ≡ Err TooLarge
HearsAt ends.Short input hearing = hearing ≡ Err Truncated

-- what is heard of an input
unfoldable pub Hears : List ℕ → Hearing → Type 0
Hears input hearing = HearsAt (head_at input) input hearing
