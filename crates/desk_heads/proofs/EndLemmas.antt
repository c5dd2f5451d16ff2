-- Where a head ends, and what more bytes change.
use Rattle.desk_heads.proofs.Common.{◌≡◌, ◌≢◌, ℕ, suc, ◌+◌, ◌-◌, ◌<◌, ◌≤◌, List, [], ◌∷◌, ◌++◌, length, take, drop, Option, Some, None, refl, sym, ap, ◌∙◌, arith, true, false, get_or, add-one, drop-cons, cond, Bool, nat_lt, length-append, take_all, min, length-take-le, ◌==◌, common_steps, length-take, take-append-le, append-nil, inl, inr, cases_lt, option_map, IfSome, Consumes, Short, TooLarge, Found, max_head, head_at, head_end, end_after_line_feed, or_later, head_end_found, empty_line_length}
use Rattle.std.proofs.Math.Seq.{take-append-add}
use Rattle.desk_heads.specs.declared.head_end.HeadEnd.{HeadEnd}

-- a head that is short has room
pub place_short : (e : Option ℕ) (n : ℕ) → head_end_found e n ≡ Short → n < max_head
place_short (Some k) n h = absurd (let f : Found k ≡ Short = h in cc)
place_short None n h = grind (arith, common_steps)

pub short_room : (b : List ℕ) → head_at b ≡ Short → length b < max_head
unfolding head_at
short_room b h = place_short (head_end (take max_head b)) (length b) h

-- the head ends here
pub found_here : (rest : List ℕ) (n : ℕ) → end_after_line_feed rest ≡ Some n → head_end rest ≡ Some n
unfolding head_end
found_here [] n h = absurd (cc h)
found_here (b ∷ rest) n h = ap (λ o. or_later o (option_map suc (head_end rest))) h

-- the head ends further on
pub found_later : (b : ℕ) (rest : List ℕ) → end_after_line_feed (b ∷ rest) ≡ None → head_end (b ∷ rest) ≡ option_map suc (head_end rest)
unfolding head_end
found_later b rest h = ap (λ o. or_later o (option_map suc (head_end rest))) h

map_suc : (at : ℕ) (o : Option ℕ) → option_map (λ n. at + n) (option_map suc o) ≡ option_map (λ n. (at + 1) + n) o
map_suc at None = refl
map_suc at (Some n) = ap Some (omega arith)

pub one_later : (bytes : List ℕ) (at : ℕ) → at < length bytes → end_after_line_feed (drop at bytes) ≡ None
    → head_end bytes ≡ option_map (λ n. at + n) (head_end (drop at bytes))
    → head_end bytes ≡ option_map (λ n. (at + 1) + n) (head_end (drop (at + 1) bytes))
one_later bytes at h none e =
    let split : drop at bytes ≡ get_or bytes at 0 ∷ drop (suc at) bytes = drop-cons bytes at 0 h in
    e ∙ ap (λ l. option_map (λ n. at + n) (head_end l)) split ∙ ap (option_map (λ n. at + n)) (found_later _ _ (sym (ap end_after_line_feed split) ∙ none)) ∙ map_suc at _ ∙ ap (λ k. option_map (λ n. (at + 1) + n) (head_end (drop k bytes))) (sym (add-one at))

pub this_end : (bytes : List ℕ) (at n : ℕ) → end_after_line_feed (drop at bytes) ≡ Some n
    → head_end bytes ≡ option_map (λ n. at + n) (head_end (drop at bytes)) → Some (at + n) ≡ head_end bytes
this_end bytes at n here e = sym (e ∙ ap (option_map (λ n. at + n)) (found_here _ n here))

pub no_end : (bytes : List ℕ) (at : ℕ) → length bytes ≤ at → head_end bytes ≡ option_map (λ n. at + n) (head_end (drop at bytes)) → None ≡ head_end bytes
unfolding head_end
no_end bytes at h e = let past : drop at bytes ≡ [] = grind (arith, common_steps) in sym (e ∙ ap (λ l. option_map (λ n. at + n) (head_end l)) past)

-- more bytes leave an end where it is
empty_line_more : (b more : List ℕ) (n : ℕ) → empty_line_length b ≡ Some n → empty_line_length (b ++ more) ≡ Some n
empty_line_more [] more n h = absurd (cc h)
empty_line_more (x ∷ []) [] n h = h
empty_line_more (x ∷ []) (y ∷ more) n h = grind (arith, common_steps)
empty_line_more (x ∷ y ∷ b) more n h = h

-- an option under suc
pub suc_some : (o : Option ℕ) (n : ℕ) → option_map suc o ≡ Some n → (k : ℕ) × (o ≡ Some k) × (n ≡ suc k)
suc_some None n h = absurd (cc h)
suc_some (Some k) n h = (k, refl, cc)

suc_more : (a b : Option ℕ) → ((k : ℕ) → a ≡ Some k → b ≡ Some k) → (n : ℕ) → option_map suc a ≡ Some n → option_map suc b ≡ Some n
suc_more a b go n h = let s = suc_some a n h in ap (option_map suc) (go s.0 s.1) ∙ ap Some (sym s.2)

under_test : (t : Bool) (a b : Option ℕ) (n : ℕ) → ((k : ℕ) → a ≡ Some k → b ≡ Some k) → cond t a None ≡ Some n → cond t b None ≡ Some n
under_test true a b n go h = go n h
under_test false a b n go h = h

pub ends_here_more : (b more : List ℕ) (n : ℕ) → end_after_line_feed b ≡ Some n → end_after_line_feed (b ++ more) ≡ Some n
ends_here_more [] more n h = absurd (cc h)
ends_here_more (x ∷ rest) more n h = under_test (x == 10) (option_map suc (empty_line_length rest)) (option_map suc (empty_line_length (rest ++ more))) n (suc_more _ _ (empty_line_more rest more)) h

-- where an empty line ends the head, more bytes change nothing
join : (now now' later later' : Option ℕ) (n : ℕ) → ((k : ℕ) → now ≡ Some k → now' ≡ Some k) → (now ≡ None → (k : ℕ) → later ≡ Some k → now' ≡ None) → ((k : ℕ) → later ≡ Some k → later' ≡ Some k) → or_later now later ≡ Some n → or_later now' later' ≡ Some n
join (Some m) now' later later' n a none b h = ap (λ o. or_later o later') (a m refl) ∙ h
join None now' later later' n a none b h = ap (λ o. or_later o later') (none refl n h) ∙ b n h

one_none : (t : Bool) (k : ℕ) → or_later (cond t None None) None ≡ Some k → ⊥
one_none true k h = cc h
one_none false k h = cc h

-- a front with no end of its own, but an end further on, has two bytes that decide it
empty_line_none : (rest more : List ℕ) (k : ℕ) → empty_line_length rest ≡ None → head_end rest ≡ Some k → empty_line_length (rest ++ more) ≡ None
unfolding head_end
empty_line_none [] more k none later = absurd (cc later)
empty_line_none (x ∷ []) more k none later = absurd (one_none (x == 10) k later)
empty_line_none (x ∷ y ∷ rest) more k none later = none

none_more : (t : Bool) (a b : Option ℕ) → (a ≡ None → b ≡ None) → cond t (option_map suc a) None ≡ None → cond t (option_map suc b) None ≡ None
none_more false a b go h = refl
none_more true None b go h = ap (option_map suc) (go refl)
none_more true (Some k) b go h = absurd (cc h)

pub head_end_more : (b more : List ℕ) (n : ℕ) → head_end b ≡ Some n → head_end (b ++ more) ≡ Some n
unfolding head_end
head_end_more [] more n h = absurd (cc h)
head_end_more (x ∷ rest) more n h =
    join (end_after_line_feed (x ∷ rest)) (end_after_line_feed (x ∷ (rest ++ more))) (option_map suc (head_end rest)) (option_map suc (head_end (rest ++ more))) n
    (ends_here_more (x ∷ rest) more)
    (λ none k later. none_more (x == 10) (empty_line_length rest) (empty_line_length (rest ++ more)) (λ e. empty_line_none rest more (suc_some _ _ later).0 e (suc_some _ _ later).1) none)
    (suc_more _ _ (head_end_more rest more)) h

pub low_short : (m : ℕ) → m < max_head → head_end_found None m ≡ Short
low_short m h = grind (arith, common_steps)

pub high_large : (m : ℕ) → max_head ≤ m → head_end_found None m ≡ TooLarge
high_large m h = grind (arith, common_steps)

-- the head is in the front
place_more : (e f : Option ℕ) (m n : ℕ) → m ≤ n → ((k : ℕ) → e ≡ Some k → f ≡ Some k) → (max_head ≤ m → f ≡ e) → head_end_found e m ≢ Short → head_end_found f n ≡ head_end_found e m
place_more (Some k) f m n up some same h = ap (λ o. head_end_found o n) (some k refl)
place_more None f m n up some same h =
    elim (cases_lt m max_head) [ inl low ↦ absurd (h (low_short m low)) | inr high ↦ ap (λ o. head_end_found o n) (same high) ∙ high_large n (omega arith) ∙ sym (high_large m high) ]

pub smaller_by : (old part new : List ℕ) (n : ℕ) → length old < max_head → 0 < n → n ≤ length part → new ≡ old ++ take n part → max_head - length new < max_head - length old
smaller_by old part new n room some fits e = let l : length new ≡ length old + n = ap length e ∙ simp (length-append) (ap (λ k. length old + k) (length-take-le n part fits)) in omega arith

front_more : (b more : List ℕ) → (rest : List ℕ) × (take max_head (b ++ more) ≡ take max_head b ++ rest)
front_more b more = elim (cases_lt (length b) max_head) [
  | inl low ↦ (take (max_head - length b) more, ap (λ k. take k (b ++ more)) (let sum : max_head ≡ length b + (max_head - length b) = omega arith in sum) ∙ take-append-add b more (max_head - length b) ∙ ap (λ l. l ++ take (max_head - length b) more) (sym (take_all max_head b (omega arith))))
  | inr high ↦ ([], take-append-le max_head b more high ∙ sym (append-nil (take max_head b)))
]

pub head_at_more : (b more : List ℕ) → head_at b ≢ Short → head_at (b ++ more) ≡ head_at b
unfolding head_at
head_at_more b more h =
    let longer : length b ≤ length (b ++ more) = simp length-append (omega arith) in
    place_more (head_end (take max_head b)) (head_end (take max_head (b ++ more))) (length b) (length (b ++ more)) longer (λ k e. ap head_end (front_more b more).1 ∙ head_end_more (take max_head b) (front_more b more).0 k e) (λ full. ap head_end (take-append-le max_head b more full)) h

-- what is decided of what was given is decided of all
pub whole_head : (a b : Option (List ℕ)) (given : List ℕ) (found : HeadEnd) → Consumes a b given → head_at given ≡ found → found ≢ Short → IfSome a (λ input. head_at input ≡ found)
whole_head None b given found c h not = tt
whole_head (Some xs) None given found c h not = absurd c
whole_head (Some xs) (Some ys) given found c h not = ap head_at c ∙ head_at_more given ys (λ e. not (sym h ∙ e)) ∙ h

min_cases : (n : ℕ) (b : List ℕ) → length b ≡ n → take (min n max_head) b ≡ take max_head b
min_cases n b e = elim (cases_lt n max_head) [ inl h ↦ ap (λ k. take k b) (let m : min n max_head ≡ n = omega arith in m) ∙ take_all n b (omega arith) ∙ sym (take_all max_head b (omega arith)) | inr h ↦ ap (λ k. take k b) (let m : min n max_head ≡ max_head = omega arith in m) ]

pub take_min : (b : List ℕ) → take (min (length b) max_head) b ≡ take max_head b
take_min b = min_cases (length b) b refl

pub place_found : (b : List ℕ) (m n : ℕ) → m ≡ min (length b) max_head → Some n ≡ head_end (take m b) → Found n ≡ head_at b
unfolding head_at
place_found b m n e h = ap (λ o. head_end_found o (length b)) (h ∙ ap (λ k. head_end (take k b)) e ∙ ap head_end (take_min b))

pub place_none : (b : List ℕ) (m : ℕ) → m ≡ min (length b) max_head → None ≡ head_end (take m b) → cond (nat_lt (length b) max_head) Short TooLarge ≡ head_at b
unfolding head_at
place_none b m e h = ap (λ o. head_end_found o (length b)) (h ∙ ap (λ k. head_end (take k b)) e ∙ ap head_end (take_min b))

-- an end lies in the bytes
one_some : (t : Bool) (n : ℕ) → cond t (Some 1) None ≡ Some n → n ≤ 1
one_some true n h = let e : 1 ≡ n = cc in omega arith
one_some false n h = absurd (cc h)

two_some : (t u v : Bool) (n : ℕ) → cond t (Some 1) (cond u (cond v (Some 2) None) None) ≡ Some n → n ≤ 2
two_some true u v n h = let e : 1 ≡ n = cc in omega arith
two_some false true true n h = let e : 2 ≡ n = cc in omega arith
two_some false true false n h = absurd (cc h)
two_some false false v n h = absurd (cc h)

empty_within : (b : List ℕ) (n : ℕ) → empty_line_length b ≡ Some n → n ≤ length b
empty_within [] n h = absurd (cc h)
empty_within (x ∷ []) n h = one_some (x == 10) n h
empty_within (x ∷ y ∷ rest) n h = let two = two_some (x == 10) (x == 13) (y == 10) n h in omega arith

suc_within : (o : Option ℕ) (len n : ℕ) → ((k : ℕ) → o ≡ Some k → k ≤ len) → option_map suc o ≡ Some n → n ≤ suc len
suc_within o len n go h = let s = suc_some o n h in let k = go s.0 s.1 in let e = s.2 in omega arith

here_within : (t : Bool) (o : Option ℕ) (len n : ℕ) → ((k : ℕ) → o ≡ Some k → k ≤ len) → cond t (option_map suc o) None ≡ Some n → n ≤ suc len
here_within true o len n go h = suc_within o len n go h
here_within false o len n go h = absurd (cc h)

or_within : (a b : Option ℕ) (len n : ℕ) → ((k : ℕ) → a ≡ Some k → k ≤ len) → ((k : ℕ) → b ≡ Some k → k ≤ len) → or_later a b ≡ Some n → n ≤ len
or_within (Some m) b len n p q h = p n h
or_within None b len n p q h = q n h

pub end_within : (b : List ℕ) (n : ℕ) → head_end b ≡ Some n → n ≤ length b
unfolding head_end
end_within [] n h = absurd (cc h)
end_within (x ∷ rest) n h = or_within (end_after_line_feed (x ∷ rest)) (option_map suc (head_end rest)) (suc (length rest)) n
    (λ k. here_within (x == 10) (empty_line_length rest) (length rest) k (empty_within rest)) (λ k. suc_within (head_end rest) (length rest) k (end_within rest)) h

pub place_within : (e : Option ℕ) (len n : ℕ) → head_end_found e len ≡ Found n → e ≡ Some n
place_within (Some m) len n h = cc
place_within None len n h = elim (cases_lt len max_head) [ inl low ↦ absurd (let s = low_short len low in let f : Short ≡ Found n = sym s ∙ h in cc) | inr high ↦ absurd (let s = high_large len high in let f : TooLarge ≡ Found n = sym s ∙ h in cc) ]

pub found_within : (b : List ℕ) (n : ℕ) → head_at b ≡ Found n → n ≤ length b × n ≤ max_head
unfolding head_at
found_within b n h =
    let front = end_within (take max_head b) n (place_within (head_end (take max_head b)) (length b) n h) in
    let long = length-take max_head b in (omega arith, omega arith)

pub place_large : (e : Option ℕ) (len : ℕ) → head_end_found e len ≡ TooLarge → max_head ≤ len
place_large (Some n) len h = absurd (let f : Found n ≡ TooLarge = h in cc)
place_large None len h = elim (cases_lt len max_head) [ inl low ↦ absurd (let f : Short ≡ TooLarge = sym (low_short len low) ∙ h in cc) | inr high ↦ high ]
