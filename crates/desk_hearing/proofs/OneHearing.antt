-- An input is heard in one way.
use Rattle.desk_hearing.proofs.Common.{◌≡◌, ℕ, inl, inr, List, take, drop, Option, Ok, Err, sym, ap, ◌∙◌, subst, arith, Result, head_at, HeadEnd, HeadContents, HeadRefusal, one_judgement, query_pairs, Listing, query_part, DeskRefusal, Route, QueryAsks, BodyAsks, ask_of_hold, heard_from, Hearing, HearsBody, HearsRest, HearsQuery, route_of_head, HearsRoute, HearsHead, HearsFront, HearsAt, Hears, OwnedRequest, Question}
use Rattle.desk_heads.specs.declared.head_end.HeadEnd.TheVariants as ends
use Rattle.desk_forms.proofs.SayingLemmas.{one_listing, one_deposit_query, one_years, one_hold}
use Rattle.desk_routes.specs.declared.route.Route.TheVariants as routes
use Rattle.desk_hearing.specs.declared.owned_request.OwnedRequest.TheVariants as owned
use Rattle.desk_hearing.specs.declared.question.Question.TheVariants as questions

one_ask : (question : Question) (body : List ℕ) (a b : OwnedRequest) → BodyAsks question body a → BodyAsks question body b → a ≡ b
one_ask (questions.Class name) body a b h k = h.2 ∙ ap (λ years. owned.DefineClass name years) (one_years body h.0 k.0 h.1 k.1) ∙ sym k.2
one_ask (questions.Deposit query) body a b h k = h ∙ sym k
one_ask questions.Hold body a b h k = h.2 ∙ ap ask_of_hold (one_hold body h.0 k.0 h.1 k.1) ∙ sym k.2
one_ask (questions.Whole known) body a b h k = h.1 ∙ sym k.1

abbrev list_question : Listing → Question
list_question listing = questions.Whole (owned.List listing.collection listing.class)

one_question : (route : Route) (query : List ℕ) (a b : Question) → QueryAsks route query a → QueryAsks route query b → a ≡ b
one_question routes.Deposit query a b h k = h.2 ∙ ap questions.Deposit (one_deposit_query (query_pairs query) h.0 k.0 h.1 k.1) ∙ sym k.2
one_question routes.List query a b h k = h.2 ∙ ap list_question (one_listing (query_pairs query) h.0 k.0 h.1 k.1) ∙ sym k.2
one_question route query a b h k = h.1 ∙ sym k.1

one_body : (caller : Option (List ℕ)) (question : Question) (body : List ℕ) (a b : Hearing) → HearsBody caller question body a → HearsBody caller question body b → a ≡ b
one_body caller question body a b (inl h) (inl k) = h.2 ∙ ap (λ ask. Ok (heard_from caller ask body)) (one_ask question body h.0 k.0 h.1 k.1) ∙ sym k.2
one_body caller question body a b (inl h) (inr k) = absurd (k.0 h.0 h.1)
one_body caller question body a b (inr h) (inl k) = absurd (h.0 k.0 k.1)
one_body caller question body a b (inr h) (inr k) = h.1 ∙ sym k.1

one_rest : (caller : Option (List ℕ)) (question : Question) (count : ℕ) (rest : List ℕ) (a b : Hearing) → HearsRest caller question count rest a → HearsRest caller question count rest b → a ≡ b
one_rest caller question count rest a b (inl h) (inl k) = one_body caller question (take count rest) a b h.1 k.1
one_rest caller question count rest a b (inl h) (inr k) = absurd (let fits = h.0 in let short = k.0 in omega arith)
one_rest caller question count rest a b (inr h) (inl k) = absurd (let fits = k.0 in let short = h.0 in omega arith)
one_rest caller question count rest a b (inr h) (inr k) = h.1 ∙ sym k.1

one_query : (contents : HeadContents) (route : Route) (rest : List ℕ) (a b : Hearing) → HearsQuery contents route rest a → HearsQuery contents route rest b → a ≡ b
one_query contents route rest a b (inl h) (inl k) =
    let same = one_question route (query_part contents.target) k.0 h.0 k.1 h.1 in
    one_rest contents.caller h.0 contents.body_length rest a b h.2 (subst (λ question. HearsRest contents.caller question contents.body_length rest b) same k.2)
one_query contents route rest a b (inl h) (inr k) = absurd (k.0 h.0 h.1)
one_query contents route rest a b (inr h) (inl k) = absurd (h.0 k.0 k.1)
one_query contents route rest a b (inr h) (inr k) = h.1 ∙ sym k.1

one_route : (contents : HeadContents) (found : Result Route DeskRefusal) (rest : List ℕ) (a b : Hearing) → HearsRoute contents found rest a → HearsRoute contents found rest b → a ≡ b
one_route contents (Ok route) rest a b h k = one_query contents route rest a b h k
one_route contents (Err refusal) rest a b h k = h ∙ sym k

one_head : (judgement : Result HeadContents HeadRefusal) (rest : List ℕ) (a b : Hearing) → HearsHead judgement rest a → HearsHead judgement rest b → a ≡ b
one_head (Ok contents) rest a b h k = one_route contents (route_of_head contents) rest a b h k
one_head (Err refusal) rest a b h k = h ∙ sym k

one_front : (front rest : List ℕ) (a b : Hearing) → HearsFront front rest a → HearsFront front rest b → a ≡ b
one_front front rest a b h k =
    let same = one_judgement front k.0 h.0 k.1 h.1 in
    one_head h.0 rest a b h.2 (subst (λ judgement. HearsHead judgement rest b) same k.2)

one_at : (ended : HeadEnd) (input : List ℕ) (a b : Hearing) → HearsAt ended input a → HearsAt ended input b → a ≡ b
one_at (ends.Found n) input a b h k = one_front (take n input) (drop n input) a b h k
one_at ends.TooLarge input a b h k = h ∙ sym k
one_at ends.Short input a b h k = h ∙ sym k

pub one_hearing : (input : List ℕ) (a b : Hearing) → Hears input a → Hears input b → a ≡ b
unfolding Hears
one_hearing input a b h k = one_at (head_at input) input a b h k
