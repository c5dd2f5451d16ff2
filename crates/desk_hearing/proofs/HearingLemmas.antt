-- What is heard, from what was read.
use Rattle.desk_hearing.proofs.Common.{◌≡◌, ◌≢◌, ℕ, ◌+◌, ◌<◌, ◌≤◌, inl, inr, List, ◌++◌, length, take, drop, Option, Some, None, Ok, Err, refl, sym, ap, ◌∙◌, subst, arith, length-append, length-drop, append-nil, Result, IfSome, Consumes, IsAtEnd, take-append-le, drop-append-le, head_at, HeadEnd, HeadContents, HeadRefusal, DeskRefusal, TooLarge, Truncated, Route, Hearing, HearsBody, HearsRest, HearsQuery, route_of_head, HearsRoute, HearsHead, HearsFront, HearsAt, Hears, Question}
use Rattle.desk_heads.specs.declared.head_end.HeadEnd.TheVariants as ends
use Rattle.desk_heads.proofs.EndLemmas.{head_at_more, found_within}

-- ---- a longer input is heard alike

rest_longer : (caller : Option (List ℕ)) (question : Question) (count : ℕ) (rest more : List ℕ) (hearing : Hearing) → hearing ≢ Err Truncated
    → HearsRest caller question count rest hearing → HearsRest caller question count (rest ++ more) hearing
rest_longer caller question count rest more hearing uncut (inl h) =
    let fits : count ≤ length (rest ++ more) = simp length-append (omega arith) in
    inl (fits, subst (λ body. HearsBody caller question body hearing) (sym (take-append-le count rest more h.0)) h.1)
rest_longer caller question count rest more hearing uncut (inr h) = absurd (uncut h.1)

query_longer : (contents : HeadContents) (route : Route) (rest more : List ℕ) (hearing : Hearing) → hearing ≢ Err Truncated
    → HearsQuery contents route rest hearing → HearsQuery contents route (rest ++ more) hearing
query_longer contents route rest more hearing uncut (inl h) = inl (h.0, h.1, rest_longer contents.caller h.0 contents.body_length rest more hearing uncut h.2)
query_longer contents route rest more hearing uncut (inr h) = inr h

route_longer : (contents : HeadContents) (found : Result Route DeskRefusal) (rest more : List ℕ) (hearing : Hearing) → hearing ≢ Err Truncated
    → HearsRoute contents found rest hearing → HearsRoute contents found (rest ++ more) hearing
route_longer contents (Ok route) rest more hearing uncut h = query_longer contents route rest more hearing uncut h
route_longer contents (Err refusal) rest more hearing uncut h = h

head_longer : (judgement : Result HeadContents HeadRefusal) (rest more : List ℕ) (hearing : Hearing) → hearing ≢ Err Truncated
    → HearsHead judgement rest hearing → HearsHead judgement (rest ++ more) hearing
head_longer (Ok contents) rest more hearing uncut h = route_longer contents (route_of_head contents) rest more hearing uncut h
head_longer (Err refusal) rest more hearing uncut h = h

front_longer : (front rest more : List ℕ) (hearing : Hearing) → hearing ≢ Err Truncated → HearsFront front rest hearing → HearsFront front (rest ++ more) hearing
front_longer front rest more hearing uncut h = (h.0, h.1, head_longer h.0 rest more hearing uncut h.2)

-- a head stays where it is
still_found : (b more : List ℕ) (n : ℕ) → head_at b ≡ ends.Found n → head_at (b ++ more) ≡ ends.Found n
still_found b more n h = head_at_more b more (λ e. let wrong : ends.Found n ≡ ends.Short = sym h ∙ e in cc) ∙ h

pub hears_longer : (b more : List ℕ) (hearing : Hearing) → Hears b hearing → hearing ≢ Err Truncated → Hears (b ++ more) hearing
unfolding Hears
hears_longer b more hearing h uncut = go (head_at b) refl h
  where
    go : (p : HeadEnd) → head_at b ≡ p → HearsAt p b hearing → HearsAt (head_at (b ++ more)) (b ++ more) hearing
    go ends.Short e h = absurd (uncut h)
    go ends.TooLarge e h = subst (λ p. HearsAt p (b ++ more) hearing) (sym (head_at_more b more (λ s. let wrong : ends.TooLarge ≡ ends.Short = sym e ∙ s in cc) ∙ e)) h
    go (ends.Found n) e h =
        let within = (found_within b n e).0 in
        let longer = front_longer (take n b) (drop n b) more hearing uncut h in
        let front = subst (λ l. HearsFront l (drop n b ++ more) hearing) (sym (take-append-le n b more within)) longer in
        let whole = subst (λ l. HearsFront (take n (b ++ more)) l hearing) (sym (drop-append-le n b more within)) front in
        subst (λ p. HearsAt p (b ++ more) hearing) (sym (still_found b more n e)) whole

-- ---- what was read

pub hears_large : (b : List ℕ) → head_at b ≡ ends.TooLarge → Hears b (Err TooLarge)
unfolding Hears
hears_large b h = subst (λ p. HearsAt p b (Err TooLarge)) (sym h) refl

pub hears_short : (b : List ℕ) → head_at b ≡ ends.Short → Hears b (Err Truncated)
unfolding Hears
hears_short b h = subst (λ p. HearsAt p b (Err Truncated)) (sym h) refl

-- what the front and all that follows it are heard as
pub hears_front : (b more : List ℕ) (n : ℕ) (hearing : Hearing) → head_at b ≡ ends.Found n → n ≤ length b
    → HearsFront (take n b) (drop n (b ++ more)) hearing → Hears (b ++ more) hearing
unfolding Hears
hears_front b more n hearing found within h =
    subst (λ p. HearsAt p (b ++ more) hearing) (sym (still_found b more n found))
    (subst (λ l. HearsFront l (drop n (b ++ more)) hearing) (sym (take-append-le n b more within)) h)

pub hears_here : (b : List ℕ) (n : ℕ) (hearing : Hearing) → head_at b ≡ ends.Found n → HearsFront (take n b) (drop n b) hearing → Hears b hearing
unfolding Hears
hears_here b n hearing found h = subst (λ p. HearsAt p b hearing) (sym found) h

-- how the front is heard, whatever follows it, as its body is
abbrev pub Announces : List ℕ → Option (List ℕ) → Question → ℕ → Type 0
Announces front caller question count = (rest : List ℕ) (hearing : Hearing) → HearsRest caller question count rest hearing → HearsFront front rest hearing

pub hears_cut : (b more all : List ℕ) (n count : ℕ) (caller : Option (List ℕ)) (question : Question) → all ≡ b ++ more → head_at b ≡ ends.Found n → n ≤ length b
    → Announces (take n b) caller question count → length all < n + count → Hears all (Err Truncated)
hears_cut b more all n count caller question e found within announces short =
    let cut : length (drop n (b ++ more)) < count = (let l = length-drop n (b ++ more) in let a = ap length e in let w = length-append b more in omega arith) in
    subst (λ l. Hears l (Err Truncated)) (sym e) (hears_front b more n (Err Truncated) found within (announces (drop n (b ++ more)) (Err Truncated) (inr (cut, refl))))

pub hears_body : (b more all : List ℕ) (n count : ℕ) (caller : Option (List ℕ)) (question : Question) (hearing : Hearing) → all ≡ b ++ more → head_at b ≡ ends.Found n → n ≤ length b
    → Announces (take n b) caller question count → n + count ≤ length all → HearsBody caller question (take count (drop n all)) hearing → Hears all hearing
hears_body b more all n count caller question hearing e found within announces long body =
    let fits : count ≤ length (drop n (b ++ more)) = (let l = length-drop n (b ++ more) in let a = ap length e in let w = length-append b more in omega arith) in
    let here = subst (λ l. HearsBody caller question (take count (drop n l)) hearing) e body in
    subst (λ l. Hears l hearing) (sym e) (hears_front b more n hearing found within (announces (drop n (b ++ more)) hearing (inl (fits, here))))

-- ---- all that the reader has

pub heard_of_all : (old new : Option (List ℕ)) (given : List ℕ) (hearing : Hearing) → Consumes old new given → Hears given hearing → hearing ≢ Err Truncated → IfSome old (λ input. Hears input hearing)
heard_of_all None new given hearing c h uncut = tt
heard_of_all (Some input) None given hearing c h uncut = absurd c
heard_of_all (Some input) (Some left) given hearing c h uncut = subst (λ l. Hears l hearing) (sym c) (hears_longer given left hearing h uncut)

pub heard_at_end : (old new : Option (List ℕ)) (given : List ℕ) (hearing : Hearing) → Consumes old new given → IsAtEnd new → Hears given hearing → IfSome old (λ input. Hears input hearing)
heard_at_end None new given hearing c end h = tt
heard_at_end (Some input) None given hearing c end h = absurd c
heard_at_end (Some input) (Some left) given hearing c end h = subst (λ l. Hears l hearing) (sym (c ∙ ap (λ l. given ++ l) end ∙ append-nil given)) h
