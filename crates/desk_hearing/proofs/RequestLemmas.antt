-- An input is heard as asking something exactly where it is such a request.
use Rattle.desk_hearing.proofs.Common.{◌≡◌, ℕ, ◌≤◌, inl, inr, List, ◌++◌, length, take, drop, Option, Ok, Err, refl, sym, ap, ◌∙◌, subst, arith, length-append, Result, take-append-drop, length-take-le, take-append_seam, drop-append_seam, head_at, IsHeadEnd, HeadEnd, found_first, first_found, HeadContents, Judges, HeadRefusal, AsksFor, path_part, query_part, DeskRefusal, Route, asked-found, found-asked, HeardValue, bag_in, caller_text, heard_from, QueryAsks, BodyAsks, HearsBody, HearsRest, HearsQuery, route_of_head, HearsRoute, HearsHead, HearsFront, HearsAt, Hears, Question}
use Rattle.desk_heads.specs.declared.head_end.HeadEnd.TheVariants as ends
use Rattle.desk_hearing.specs.Requests.{SpellsRequest}
use Rattle.desk_hearing.proofs.JudgingLemmas.{asked_route}

-- ---- what is heard is a request

heard_body : (caller : Option (List ℕ)) (question : Question) (body : List ℕ) (heard : HeardValue) → HearsBody caller question body (Ok heard)
    → BodyAsks question body heard.request × (heard.bag ≡ bag_in heard.request body) × (heard.caller ≡ caller_text caller)
heard_body caller question body heard (inl h) =
    let e = h.2 in
    let same : heard ≡ heard_from caller h.0 body = cc in
    let ask = ap (λ v. v.request) same in
    (subst (BodyAsks question body) (sym ask) h.1, ap (λ v. v.bag) same ∙ ap (λ a. bag_in a body) (sym ask), ap (λ v. v.caller) same)
heard_body caller question body heard (inr h) = absurd (let e = h.1 in cc)

heard_rest : (caller : Option (List ℕ)) (question : Question) (count : ℕ) (rest : List ℕ) (heard : HeardValue) → HearsRest caller question count rest (Ok heard)
    → (count ≤ length rest) × HearsBody caller question (take count rest) (Ok heard)
heard_rest caller question count rest heard (inl h) = h
heard_rest caller question count rest heard (inr h) = absurd (let e = h.1 in cc)

heard_query : (contents : HeadContents) (route : Route) (rest : List ℕ) (heard : HeardValue) → HearsQuery contents route rest (Ok heard)
    → (question : Question) × QueryAsks route (query_part contents.target) question × HearsRest contents.caller question contents.body_length rest (Ok heard)
heard_query contents route rest heard (inl h) = h
heard_query contents route rest heard (inr h) = absurd (let e = h.1 in cc)

heard_route : (contents : HeadContents) (found : Result Route DeskRefusal) (rest : List ℕ) (heard : HeardValue) → HearsRoute contents found rest (Ok heard)
    → (route : Route) × (found ≡ Ok route) × HearsQuery contents route rest (Ok heard)
heard_route contents (Ok route) rest heard h = (route, refl, h)
heard_route contents (Err refusal) rest heard h = absurd (cc)

heard_head : (judgement : Result HeadContents HeadRefusal) (rest : List ℕ) (heard : HeardValue) → HearsHead judgement rest (Ok heard)
    → (contents : HeadContents) × (judgement ≡ Ok contents) × HearsRoute contents (route_of_head contents) rest (Ok heard)
heard_head (Ok contents) rest heard h = (contents, refl, h)
heard_head (Err refusal) rest heard h = absurd (cc)

heard_at : (ended : HeadEnd) (input : List ℕ) (heard : HeardValue) → HearsAt ended input (Ok heard)
    → (n : ℕ) × (ended ≡ ends.Found n) × HearsFront (take n input) (drop n input) (Ok heard)
heard_at (ends.Found n) input heard h = (n, refl, h)
heard_at ends.TooLarge input heard h = absurd (cc)
heard_at ends.Short input heard h = absurd (cc)

pub route_asks : (contents : HeadContents) (route : Route) → route_of_head contents ≡ Ok route → AsksFor contents.method (path_part contents.target) route
unfolding route_of_head
route_asks contents route e = found-asked contents.method (path_part contents.target) route e

pub heard_spells : (input : List ℕ) (heard : HeardValue) → Hears input (Ok heard) → SpellsRequest input heard
unfolding Hears
heard_spells input heard h =
    let at = heard_at (head_at input) input heard h in
    let n = at.0 in
    let is = found_first input n at.1 in
    let rest = drop n input in
    let front = at.2 in
    let head = heard_head front.0 rest heard front.2 in
    let contents = head.0 in
    let route = heard_route contents (route_of_head contents) rest heard head.2 in
    let query = heard_query contents route.0 rest heard route.2 in
    let body = heard_rest contents.caller query.0 contents.body_length rest heard query.2 in
    let said = heard_body contents.caller query.0 (take contents.body_length rest) heard body.1 in
    record {
      front = take n input;
      body = take contents.body_length rest;
      following = drop contents.body_length rest;
      parts = sym (take-append-drop n input) ∙ ap (λ l. take n input ++ l) (sym (take-append-drop contents.body_length rest));
      head = subst (IsHeadEnd input) (sym (length-take-le n input is.within)) is;
      contents = contents;
      says = subst (Judges (take n input)) head.1 front.1;
      caller = said.2;
      route = route.0;
      asks = route_asks contents route.0 route.1;
      question = query.0;
      query = query.1;
      body_length = length-take-le contents.body_length rest body.0;
      asked = said.0;
      bag = said.1;
    }

-- ---- a request is heard

spelled_body : (caller : Option (List ℕ)) (question : Question) (body following : List ℕ) (count : ℕ) (heard : HeardValue) → length body ≡ count → BodyAsks question body heard.request → heard.bag ≡ bag_in heard.request body → heard.caller ≡ caller_text caller
    → HearsRest caller question count (body ++ following) (Ok heard)
spelled_body caller question body following count heard e asked bag same =
    let fits : count ≤ length (body ++ following) = (let l = length-append body following in omega arith) in
    let part : body ≡ take count (body ++ following) = sym (take-append_seam body following) ∙ ap (λ n. take n (body ++ following)) e in
    inl (fits, subst (λ l. HearsBody caller question l (Ok heard)) part (inl (heard.request, asked, ap (λ name. Ok (record { caller = name; request = heard.request; bag = heard.bag })) same ∙ ap (λ b. Ok (record { caller = caller_text caller; request = heard.request; bag = b })) bag)))

pub spelled_hears : (input : List ℕ) (heard : HeardValue) → SpellsRequest input heard → Hears input (Ok heard)
unfolding Hears
spelled_hears input heard s =
    let n = length s.front in
    let found = first_found input n s.head in
    let front : s.front ≡ take n input = sym (take-append_seam s.front (s.body ++ s.following)) ∙ ap (take n) (sym s.parts) in
    let rest : s.body ++ s.following ≡ drop n input = sym (drop-append_seam s.front (s.body ++ s.following)) ∙ ap (drop n) (sym s.parts) in
    let body = spelled_body s.contents.caller s.question s.body s.following s.contents.body_length heard s.body_length s.asked s.bag s.caller in
    let route = asked_route s.contents (path_part s.contents.target) (Ok s.route) refl (asked-found s.contents.method (path_part s.contents.target) s.route s.asks) in
    let here : HearsFront s.front (s.body ++ s.following) (Ok heard) =
    (Ok s.contents, s.says, subst (λ r. HearsRoute s.contents r (s.body ++ s.following) (Ok heard)) (sym route) (inl (s.question, s.query, body))) in
    subst (λ p. HearsAt p input (Ok heard)) (sym found)
    (subst (λ l. HearsFront (take n input) l (Ok heard)) rest (subst (λ l. HearsFront l (s.body ++ s.following) (Ok heard)) front here))
