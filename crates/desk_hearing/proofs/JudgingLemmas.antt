-- What the steps of the code answer, as what is heard.
use Rattle.desk_hearing.proofs.Common.{◌≡◌, ◌≢◌, ℕ, inl, inr, List, [], Option, Some, None, Ok, Err, refl, sym, ap, ◌∙◌, subst, Result, ok_or, option_and_then, query_pairs, AsksListing, Listing, HeadContents, Judges, HeadRefusal, pattern_of, resource_named, method_of, route_at, route_of, route_of_resource, path_part, query_part, Resource, DeskRefusal, Truncated, NoRoute, Method, BadQuery, Route, QueryAsks, fault_of_query, fault_of_body, refusal_of_head, HearsRest, route_of_head, HearsRoute, HearsFront, AllowsQuery, IsRefusedQuery, AnswersQuery, AnswersBody, BodyAsks, AnswersFront, OwnedRequest, JudgingFault, Announced, Question}
use Rattle.desk_forms.specs.declared.body.BodyFault.{BodyFault}
use Rattle.desk_forms.specs.declared.body.BodyFault.TheVariants as bodies
use Rattle.desk_forms.specs.declared.query.QueryFault.{QueryFault}
use Rattle.desk_forms.specs.declared.query.QueryFault.TheVariants as queries
use Rattle.desk_heads.specs.declared.refusal.HeadRefusal.TheVariants as heads
use Rattle.desk_routes.specs.declared.route.Route.TheVariants as routes
use Rattle.desk_hearing.specs.declared.fault.JudgingFault.TheVariants as faults
use Rattle.desk_hearing.specs.declared.question.Question.TheVariants as questions

-- ---- queries

-- a query that asks something is one that its route may have
allowed : (route : Route) (query : List ℕ) (question : Question) → QueryAsks route query question → AllowsQuery route query
allowed routes.Deposit query question h = tt
allowed routes.List query question h = tt
allowed route query question h = h.0

pub keys_refused : (route : Route) (query : List ℕ) (fault : QueryFault) → IsRefusedQuery route query → fault ≡ queries.BadQuery
    → AnswersQuery route query (Err (fault_of_query fault))
keys_refused route query queries.BadQuery none e = (refl, λ question x. none (allowed route query question x))
keys_refused route query queries.Memory none e = tt

pub listing_refused : (query : List ℕ) (fault : QueryFault) → (fault ≡ queries.BadQuery → (listing : Listing) → AsksListing (query_pairs query) listing → ⊥)
    → AnswersQuery routes.List query (Err (fault_of_query fault))
listing_refused query queries.BadQuery h = (refl, λ question x. h refl x.0 x.1)
listing_refused query queries.Memory h = tt

-- ---- bodies

pub form_refused : (question : Question) (body : List ℕ) (fault : BodyFault) → (fault ≡ bodies.BadBody → (ask : OwnedRequest) → BodyAsks question body ask → ⊥)
    → AnswersBody question body (Err (fault_of_body fault))
form_refused question body bodies.BadBody h = (refl, h refl)
form_refused question body bodies.Memory h = tt

pub body_refused : (known : OwnedRequest) (body : List ℕ) (fault : BodyFault) → (body ≡ [] → ⊥) → AnswersBody (questions.Whole known) body (Err (fault_of_body fault))
body_refused known body fault some = form_refused (questions.Whole known) body fault (λ e ask x. some x.0)

-- ---- fronts

pub asked_route : (contents : HeadContents) (path : List ℕ) (found : Result Route DeskRefusal) → path ≡ path_part contents.target
    → route_of contents.method path ≡ found → route_of_head contents ≡ found
unfolding route_of_head
asked_route contents path found e f = ap (route_of contents.method) (sym e) ∙ f

no_cut_route : (found : Option Route) (refusal other : DeskRefusal) → other ≢ Truncated → ok_or found other ≡ Err refusal → refusal ≢ Truncated
no_cut_route (Some route) refusal other uncut e = absurd (cc)
no_cut_route None refusal other uncut e = λ t. uncut (cc)

no_cut_place : (method : List ℕ) (resource : Option Resource) (refusal : DeskRefusal) → route_of_resource method resource ≡ Err refusal → refusal ≢ Truncated
no_cut_place method None refusal e = λ t. let wrong : NoRoute ≡ Truncated = cc in cc
no_cut_place method (Some resource) refusal e = no_cut_route (option_and_then (λ m. route_at m resource) (method_of method)) refusal (Method (pattern_of resource)) (λ t. cc) e

pub route_uncut : (method path : List ℕ) (refusal : DeskRefusal) → route_of method path ≡ Err refusal → refusal ≢ Truncated
route_uncut method path refusal e = no_cut_place method (resource_named path) refusal e

pub head_uncut : (refusal : HeadRefusal) → refusal_of_head refusal ≢ Truncated
head_uncut heads.BadHead = λ e. cc
head_uncut _ = λ e. cc

pub query_uncut : (route : Route) (query : List ℕ) (fault : JudgingFault) → AnswersQuery route query (Err fault) → fault ≢ faults.Refused Truncated
query_uncut route query (faults.Refused refusal) h = λ e. let bad = h.0 in let wrong : BadQuery ≡ Truncated = cc in cc
query_uncut route query faults.Memory h = λ e. cc

pub head_refused : (front rest : List ℕ) (refusal : HeadRefusal) → Judges front (Err refusal) → HearsFront front rest (Err (refusal_of_head refusal))
head_refused front rest refusal judged = (Err refusal, judged, refl)

pub route_refused : (front rest : List ℕ) (contents : HeadContents) (refusal : DeskRefusal) → Judges front (Ok contents) → route_of_head contents ≡ Err refusal
    → HearsFront front rest (Err refusal)
route_refused front rest contents refusal judged e = (Ok contents, judged, subst (λ found. HearsRoute contents found rest (Err refusal)) (sym e) refl)

pub query_refused : (front query : List ℕ) (contents : HeadContents) (route : Route) (fault : JudgingFault) → Judges front (Ok contents) → route_of_head contents ≡ Ok route
    → query ≡ query_part contents.target → AnswersQuery route query (Err fault) → AnswersFront front (Err fault)
query_refused front query contents route (faults.Refused refusal) judged e q h = λ rest.
    let none = subst (λ text. (question : Question) → QueryAsks route text question → ⊥) q h.1 in
    (Ok contents, judged, subst (λ found. HearsRoute contents found rest (Err refusal)) (sym e) (inr (none, ap Err h.0)))
query_refused front query contents route faults.Memory judged e q h = tt

pub front_announced : (front query : List ℕ) (contents : HeadContents) (route : Route) (announced : Announced) → Judges front (Ok contents) → route_of_head contents ≡ Ok route
    → query ≡ query_part contents.target → QueryAsks route query announced.question → announced.caller ≡ contents.caller → announced.body_length ≡ contents.body_length
    → AnswersFront front (Ok announced)
front_announced front query contents route announced judged e q asks caller count = λ rest hearing h.
    let asked = subst (λ text. QueryAsks route text announced.question) q asks in
    let by_caller = subst (λ name. HearsRest name announced.question announced.body_length rest hearing) caller h in
    let by_count = subst (λ n. HearsRest contents.caller announced.question n rest hearing) count by_caller in
    (Ok contents, judged, subst (λ found. HearsRoute contents found rest hearing) (sym e) (inl (announced.question, asked, by_count)))
