-- An input is refused exactly where the steps before the refusal pass and its own fails.
use Rattle.desk_hearing.proofs.Common.{◌≡◌, ℕ, ◌≤◌, ◌⊎◌, inl, inr, List, ◌++◌, length, take, drop, Option, Some, None, Ok, Err, refl, sym, ap, ◌∙◌, subst, arith, length-append, Result, ok_or, option_and_then, take-append-drop, length-take-le, take-append_seam, drop-append_seam, head_at, IsHeadEnd, HeadEnd, found_first, first_found, short_none, none_short, large_none, none_large, HeadContents, Judges, HeadRefusal, refused_first, first_refused, pattern_of, resource_named, method_of, route_at, route_of, route_of_resource, path_part, Resource, DeskRefusal, TooLarge, Truncated, BadHead, Chunked, BadLength, TwoCallers, NoRoute, Method, BadQuery, BadBody, Route, asked-found, nothing-named, named-nothing, method-refused, refused-method, Hearing, refusal_of_head, HearsBody, HearsRest, HearsQuery, route_of_head, HearsRoute, HearsHead, HearsFront, HearsAt, Hears, Question}
use Rattle.desk_heads.specs.declared.head_end.HeadEnd.TheVariants as ends
use Rattle.desk_heads.specs.declared.refusal.HeadRefusal.TheVariants as heads
use Rattle.desk_routes.specs.declared.resource.PathPattern.{PathPattern}
use Rattle.desk_hearing.specs.Refused.{BeginsWithHead, TakesHead, TakesRoute, TakesQuery, RefusesHead, IsRefused}
use Rattle.desk_hearing.proofs.HearingLemmas.{hears_large, hears_short}
use Rattle.desk_hearing.proofs.JudgingLemmas.{asked_route, head_refused, route_refused}
use Rattle.desk_hearing.proofs.RequestLemmas.{route_asks}

-- ---- what is refused failed at a step

refused_as : (input : List ℕ) (refusal other : DeskRefusal) → refusal ≡ other → IsRefused input other → IsRefused input refusal
refused_as input refusal other same h = subst (IsRefused input) (sym same) h

head_is_refused : (input : List ℕ) (refusal : HeadRefusal) → RefusesHead input refusal → IsRefused input (refusal_of_head refusal)
head_is_refused input heads.TooLarge h = inr h
head_is_refused input _ h = h

-- no route is refused for another reason than these
or_fault : (found : Option Route) (refusal other : DeskRefusal) → ok_or found other ≡ Err refusal → refusal ≡ other
or_fault (Some route) refusal other e = absurd (cc)
or_fault None refusal other e = cc

resource_fault : (method : List ℕ) (resource : Option Resource) (refusal : DeskRefusal) → route_of_resource method resource ≡ Err refusal
    → (refusal ≡ NoRoute) ⊎ ((pattern : PathPattern) × (refusal ≡ Method pattern))
resource_fault method None refusal e = inl (cc)
resource_fault method (Some resource) refusal e =
    inr (pattern_of resource, or_fault (option_and_then (λ m. route_at m resource) (method_of method)) refusal (Method (pattern_of resource)) e)

route_fault : (input : List ℕ) (contents : HeadContents) (rest : List ℕ) (refusal : DeskRefusal) → TakesHead input contents rest
    → route_of contents.method (path_part contents.target) ≡ Err refusal → IsRefused input refusal
route_fault input contents rest refusal took e = elim (resource_fault contents.method (resource_named (path_part contents.target)) refusal e) [
  | inl same ↦ refused_as input refusal NoRoute same (contents, rest, took, nothing-named contents.method (path_part contents.target) (e ∙ ap Err same))
  | inr some ↦ refused_as input refusal (Method some.0) some.1 (contents, rest, took, method-refused contents.method (path_part contents.target) some.0 (e ∙ ap Err some.1))
]

refused_body : (input : List ℕ) (contents : HeadContents) (question : Question) (rest : List ℕ) (refusal : DeskRefusal) → TakesQuery input contents question rest
    → contents.body_length ≤ length rest → HearsBody contents.caller question (take contents.body_length rest) (Err refusal) → IsRefused input refusal
refused_body input contents question rest refusal asks fits (inl h) = absurd (let e = h.2 in cc)
refused_body input contents question rest refusal asks fits (inr h) =
    let e = h.1 in
    let count = contents.body_length in
    refused_as input refusal BadBody (cc) (
      question,
      take count rest,
      record {
        contents = contents;
        following = drop count rest;
        asks = subst (TakesQuery input contents question) (sym (take-append-drop count rest)) asks;
        body_length = length-take-le count rest fits;
      },
      h.0,
    )

refused_rest : (input : List ℕ) (contents : HeadContents) (question : Question) (rest : List ℕ) (refusal : DeskRefusal) → TakesQuery input contents question rest
    → HearsRest contents.caller question contents.body_length rest (Err refusal) → IsRefused input refusal
refused_rest input contents question rest refusal asks (inl h) = refused_body input contents question rest refusal asks h.0 h.1
refused_rest input contents question rest refusal asks (inr h) =
    let e = h.1 in refused_as input refusal Truncated (cc) (inr (contents, question, rest, asks, h.0))

refused_query : (input : List ℕ) (contents : HeadContents) (route : Route) (rest : List ℕ) (refusal : DeskRefusal) → TakesRoute input contents route rest
    → HearsQuery contents route rest (Err refusal) → IsRefused input refusal
refused_query input contents route rest refusal found (inl h) =
    refused_rest input contents h.0 rest refusal (record { route = route; found = found; query = h.1 }) h.2
refused_query input contents route rest refusal found (inr h) =
    let e = h.1 in refused_as input refusal BadQuery (cc) (contents, route, rest, found, h.0)

asked_is : (contents : HeadContents) (found : Result Route DeskRefusal) → route_of_head contents ≡ found → route_of contents.method (path_part contents.target) ≡ found
unfolding route_of_head
asked_is contents found e = e

refused_route : (input : List ℕ) (contents : HeadContents) (rest : List ℕ) (refusal : DeskRefusal) → TakesHead input contents rest
    → (found : Result Route DeskRefusal) → route_of_head contents ≡ found → HearsRoute contents found rest (Err refusal) → IsRefused input refusal
refused_route input contents rest refusal took (Ok route) e h =
    refused_query input contents route rest refusal (record { head = took; asks = route_asks contents route e }) h
refused_route input contents rest refusal took (Err fault) e h =
    let same : refusal ≡ fault = cc in refused_as input refusal fault same (route_fault input contents rest fault took (asked_is contents (Err fault) e))

refused_head : (input head rest : List ℕ) (refusal : DeskRefusal) → BeginsWithHead input head rest
    → (judgement : Result HeadContents HeadRefusal) → Judges head judgement → HearsHead judgement rest (Err refusal) → IsRefused input refusal
refused_head input head rest refusal begins (Ok contents) judged h =
    refused_route input contents rest refusal (record { head = head; begins = begins; says = judged }) (route_of_head contents) refl h
refused_head input head rest refusal begins (Err fault) judged h =
    let same : refusal ≡ refusal_of_head fault = cc in
    refused_as input refusal (refusal_of_head fault) same (head_is_refused input fault (head, rest, begins, refused_first head fault judged))

begins_found : (input : List ℕ) (n : ℕ) → head_at input ≡ ends.Found n → BeginsWithHead input (take n input) (drop n input)
begins_found input n found = let is = found_first input n found in record {
  parts = sym (take-append-drop n input);
  is = subst (IsHeadEnd input) (sym (length-take-le n input is.within)) is;
}

refused_at : (input : List ℕ) (refusal : DeskRefusal) (end : HeadEnd) → head_at input ≡ end → HearsAt end input (Err refusal) → IsRefused input refusal
refused_at input refusal (ends.Found n) found h = refused_head input (take n input) (drop n input) refusal (begins_found input n found) h.0 h.1 h.2
refused_at input refusal ends.TooLarge found h = let same : refusal ≡ TooLarge = cc in refused_as input refusal TooLarge same (inl (large_none input found))
refused_at input refusal ends.Short found h = let same : refusal ≡ Truncated = cc in refused_as input refusal Truncated same (inl (short_none input found))

pub refused_is : (input : List ℕ) (refusal : DeskRefusal) → Hears input (Err refusal) → IsRefused input refusal
unfolding Hears
refused_is input refusal h = refused_at input refusal (head_at input) refl h

-- ---- what failed at a step is refused

-- an input is heard as its head and what follows it are
hears_parts : (input head rest : List ℕ) (hearing : Hearing) → BeginsWithHead input head rest → HearsFront head rest hearing → Hears input hearing
unfolding Hears
hears_parts input head rest hearing begins h =
    let n = length head in
    let found = first_found input n begins.is in
    let front : head ≡ take n input = sym (take-append_seam head rest) ∙ ap (take n) (sym begins.parts) in
    let following : rest ≡ drop n input = sym (drop-append_seam head rest) ∙ ap (drop n) (sym begins.parts) in
    subst (λ p. HearsAt p input hearing) (sym found)
    (subst (λ l. HearsFront (take n input) l hearing) following (subst (λ l. HearsFront l rest hearing) front h))

hears_head : (input : List ℕ) (refusal : HeadRefusal) → RefusesHead input refusal → Hears input (Err (refusal_of_head refusal))
hears_head input refusal h = hears_parts input h.0 h.1 _ h.2 (head_refused h.0 h.1 refusal (first_refused h.0 refusal h.3))

hears_no_route : (input : List ℕ) (contents : HeadContents) (rest : List ℕ) (refusal : DeskRefusal) → TakesHead input contents rest
    → route_of contents.method (path_part contents.target) ≡ Err refusal → Hears input (Err refusal)
hears_no_route input contents rest refusal took e =
    hears_parts input took.head rest _ took.begins (route_refused took.head rest contents refusal took.says (asked_route contents _ _ refl e))

-- an input on a route is heard as its query is
hears_query : (input : List ℕ) (contents : HeadContents) (route : Route) (rest : List ℕ) (hearing : Hearing) → TakesRoute input contents route rest
    → HearsQuery contents route rest hearing → Hears input hearing
hears_query input contents route rest hearing found h =
    let took = found.head in
    let asked = asked_route contents (path_part contents.target) (Ok route) refl (asked-found contents.method (path_part contents.target) route found.asks) in
    hears_parts input took.head rest hearing took.begins (Ok contents, took.says, subst (λ r. HearsRoute contents r rest hearing) (sym asked) h)

-- an input that asks a question is heard as what follows its head is
hears_rest : (input : List ℕ) (contents : HeadContents) (question : Question) (rest : List ℕ) (hearing : Hearing) → TakesQuery input contents question rest
    → HearsRest contents.caller question contents.body_length rest hearing → Hears input hearing
hears_rest input contents question rest hearing asks h = hears_query input contents asks.route rest hearing asks.found (inl (question, asks.query, h))

whole_body : (caller : Option (List ℕ)) (question : Question) (body following : List ℕ) (count : ℕ) (hearing : Hearing) → length body ≡ count
    → HearsBody caller question body hearing → HearsRest caller question count (body ++ following) hearing
whole_body caller question body following count hearing e h =
    let fits : count ≤ length (body ++ following) = (let l = length-append body following in omega arith) in
    let part : body ≡ take count (body ++ following) = sym (take-append_seam body following) ∙ ap (λ n. take n (body ++ following)) e in
    inl (fits, subst (λ l. HearsBody caller question l hearing) part h)

pub is_refused : (input : List ℕ) (refusal : DeskRefusal) → IsRefused input refusal → Hears input (Err refusal)
is_refused input TooLarge (inl h) = hears_large input (none_large input h)
is_refused input TooLarge (inr h) = hears_head input heads.TooLarge h
is_refused input Truncated (inl h) = hears_short input (none_short input h)
is_refused input Truncated (inr h) = hears_rest input h.0 h.1 h.2 _ h.3 (inr (h.4, refl))
is_refused input BadHead h = hears_head input heads.BadHead h
is_refused input Chunked h = hears_head input heads.Chunked h
is_refused input BadLength h = hears_head input heads.BadLength h
is_refused input TwoCallers h = hears_head input heads.TwoCallers h
is_refused input NoRoute h = hears_no_route input h.0 h.1 NoRoute h.2 (named-nothing h.0.method (path_part h.0.target) h.3)
is_refused input (Method pattern) h = hears_no_route input h.0 h.1 (Method pattern) h.2 (refused-method h.0.method (path_part h.0.target) pattern h.3)
is_refused input BadQuery h = hears_query input h.0 h.1 h.2 _ h.3 (inr (h.4, refl))
is_refused input BadBody h =
    let has = h.2 in
    hears_rest input has.contents h.0 (h.1 ++ has.following) _ has.asks (whole_body has.contents.caller h.0 h.1 has.following has.contents.body_length _ has.body_length (inr (h.3, refl)))
