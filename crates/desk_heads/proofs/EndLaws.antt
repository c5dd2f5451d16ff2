-- The head that is found is the shortest front that ends with an empty line.
use Rattle.desk_heads.proofs.Common.{◌≡◌, ◌≢◌, ℕ, suc, zero, ◌<◌, ◌≤◌, ◌⊎◌, inl, inr, List, [], ◌∷◌, ◌++◌, length, take, drop, Option, Some, None, refl, sym, ap, ◌∙◌, subst, arith, true, false, cond, Bool, length-append, length-take-le, take_all, ◌==◌, length-take, take-append-le, take-append-drop, cases_lt, eqb-true, option_map, Short, TooLarge, Found, max_head, head_at, head_end, end_after_line_feed, or_later, head_end_found, EndsWithEmptyLine, IsHeadEnd, HasNoHead}
use Rattle.desk_heads.proofs.EndLemmas.{place_short, place_within, place_large, low_short, high_large, ends_here_more, suc_some, end_within, found_within}

-- bytes that end so are two or more
ends_long : (b : List ℕ) → EndsWithEmptyLine b → 2 ≤ length b
ends_long b h = elim h.1 [
  | inl e ↦ (let l : length b ≡ length (h.0 ++ 10 ∷ 10 ∷ []) = ap length e in let s = length-append h.0 (10 ∷ 10 ∷ []) in omega arith)
  | inr e ↦ (let l : length b ≡ length (h.0 ++ 10 ∷ 13 ∷ 10 ∷ []) = ap length e in let s = length-append h.0 (10 ∷ 13 ∷ 10 ∷ []) in omega arith)
]

short_front : (k : ℕ) (b : List ℕ) → k < 2 → ¬ EndsWithEmptyLine (take k b)
short_front k b few h = let l = ends_long (take k b) h in let s = length-take k b in absurd (omega arith)

-- bytes with a first one end so where that one begins the end, or where the others end so
two_feeds : (x : ℕ) (w front : List ℕ) → x ∷ w ≡ front ++ 10 ∷ 10 ∷ [] → (end_after_line_feed (x ∷ w) ≡ Some (suc (length w))) ⊎ EndsWithEmptyLine w
two_feeds x w [] e = let ws : w ≡ 10 ∷ [] = cc in inl (ap end_after_line_feed e ∙ ap (λ l. Some (suc (length l))) (sym ws))
two_feeds x w (f ∷ front) e = inr (front, inl cc)

feed_return : (x : ℕ) (w front : List ℕ) → x ∷ w ≡ front ++ 10 ∷ 13 ∷ 10 ∷ [] → (end_after_line_feed (x ∷ w) ≡ Some (suc (length w))) ⊎ EndsWithEmptyLine w
feed_return x w [] e = let ws : w ≡ 13 ∷ 10 ∷ [] = cc in inl (ap end_after_line_feed e ∙ ap (λ l. Some (suc (length l))) (sym ws))
feed_return x w (f ∷ front) e = inr (front, inr cc)

here_or_later : (x : ℕ) (w : List ℕ) → EndsWithEmptyLine (x ∷ w) → (end_after_line_feed (x ∷ w) ≡ Some (suc (length w))) ⊎ EndsWithEmptyLine w
here_or_later x w h = elim h.1 [ inl e ↦ two_feeds x w h.0 e | inr e ↦ feed_return x w h.0 e ]

one_more : (x : ℕ) (w : List ℕ) → EndsWithEmptyLine w → EndsWithEmptyLine (x ∷ w)
one_more x w h = (x ∷ h.0, elim h.1 [ inl e ↦ inl (ap (λ l. x ∷ l) e) | inr e ↦ inr (ap (λ l. x ∷ l) e) ])

-- an end at the front is one of the two
tests_tell : (t u v w : Bool) (m : ℕ) → cond t (option_map suc (cond u (Some 1) (cond v (cond w (Some 2) None) None))) None ≡ Some m
    → ((t ≡ true) × (u ≡ true) × (m ≡ 2)) ⊎ ((t ≡ true) × (v ≡ true) × (w ≡ true) × (m ≡ 3))
tests_tell true true v w m h = inl (refl, refl, cc)
tests_tell true false true true m h = inr (refl, refl, refl, cc)
tests_tell true false true false m h = absurd (cc h)
tests_tell true false false w m h = absurd (cc h)
tests_tell false u v w m h = absurd (cc h)

few_tests : (t u : Bool) (m : ℕ) → cond t (option_map suc (cond u (Some 1) None)) None ≡ Some m → (t ≡ true) × (u ≡ true) × (m ≡ 2)
few_tests true true m h = (refl, refl, cc)
few_tests true false m h = absurd (cc h)
few_tests false u m h = absurd (cc h)

no_test : (t : Bool) (m : ℕ) → cond t (option_map suc None) None ≡ Some m → ⊥
no_test true m h = cc h
no_test false m h = cc h

-- the two forms of an end at the front
Front : List ℕ → ℕ → Type 0
Front b m = ((rest : List ℕ) × (b ≡ 10 ∷ 10 ∷ rest) × (m ≡ 2)) ⊎ ((rest : List ℕ) × (b ≡ 10 ∷ 13 ∷ 10 ∷ rest) × (m ≡ 3))

front_form : (b : List ℕ) (m : ℕ) → end_after_line_feed b ≡ Some m → Front b m
unfolding Front
front_form [] m h = absurd (cc h)
front_form (x ∷ []) m h = absurd (no_test (x == 10) m h)
front_form (x ∷ y ∷ []) m h =
    let t = few_tests (x == 10) (y == 10) m h in
    let a = eqb-true x 10 t.0 in let b = eqb-true y 10 t.1 in inl ([], cc, t.2)
front_form (x ∷ y ∷ z ∷ rest) m h = elim (tests_tell (x == 10) (y == 10) (y == 13) (z == 10) m h) [
  | inl t ↦ (let a = eqb-true x 10 t.0 in let b = eqb-true y 10 t.1 in inl (z ∷ rest, cc, t.2))
  | inr t ↦ (let a = eqb-true x 10 t.0 in let b = eqb-true y 13 t.1 in let c = eqb-true z 10 t.2 in inr (rest, cc, t.3))
]

front_ends : (b : List ℕ) (m : ℕ) → Front b m → EndsWithEmptyLine (take m b)
unfolding Front
front_ends b m f = elim f [
  | inl t ↦ ([], inl (ap (λ k. take k b) t.2 ∙ ap (take 2) t.1))
  | inr t ↦ ([], inr (ap (λ k. take k b) t.2 ∙ ap (take 3) t.1))
]

-- two bytes end so only where both are line feeds
second_feed : (x y : ℕ) (front : List ℕ) → x ∷ y ∷ [] ≡ front ++ 10 ∷ 10 ∷ [] → y ≡ 10
second_feed x y [] e = cc
second_feed x y (f ∷ front) e = let l : 2 ≡ suc (length (front ++ 10 ∷ 10 ∷ [])) = ap length e in let s = length-append front (10 ∷ 10 ∷ []) in absurd (omega arith)

two_bytes : (x y : ℕ) → EndsWithEmptyLine (x ∷ y ∷ []) → y ≡ 10
two_bytes x y h = elim h.1 [
  | inl e ↦ second_feed x y h.0 e
  | inr e ↦ (let l : 2 ≡ length (h.0 ++ 10 ∷ 13 ∷ 10 ∷ []) = ap length e in let s = length-append h.0 (10 ∷ 13 ∷ 10 ∷ []) in absurd (omega arith))
]

no_feed : ◌≡◌ {A = ℕ} 13 10 → ⊥
no_feed h = omega arith

front_shortest : (b : List ℕ) (m : ℕ) → Front b m → (k : ℕ) → k < m → ¬ EndsWithEmptyLine (take k b)
unfolding Front
front_shortest b m f k less h = elim f [
  | inl t ↦ (let e = t.2 in short_front k b (omega arith) h)
  | inr t ↦ (let e = t.2 in elim (cases_lt k 2) [
    | inl few ↦ short_front k b few h
    | inr two ↦ (let k2 : k ≡ 2 = omega arith in
        let P : List ℕ → Type 0 = λ l. EndsWithEmptyLine l in
        let same : take k b ≡ 10 ∷ 13 ∷ [] = ap (λ k. take k b) k2 ∙ ap (take 2) t.1 in
        no_feed (two_bytes 10 13 (subst P same h)))
  ])
]

or_none : (a b : Option ℕ) → or_later a b ≡ None → (a ≡ None) × (b ≡ None)
or_none None b h = (refl, h)
or_none (Some k) b h = absurd (cc h)

or_some : (a b : Option ℕ) (n : ℕ) → or_later a b ≡ Some n → (a ≡ Some n) ⊎ ((a ≡ None) × (b ≡ Some n))
or_some None b n h = inr (refl, h)
or_some (Some k) b n h = inl h

suc_none : (o : Option ℕ) → option_map suc o ≡ None → o ≡ None
suc_none None h = refl
suc_none (Some k) h = absurd (cc h)

-- an end that is in a front is in the whole
whole_end : (x k m : ℕ) (rest : List ℕ) → end_after_line_feed (x ∷ take k rest) ≡ Some m → end_after_line_feed (x ∷ rest) ≡ Some m
whole_end x k m rest h = ap (λ l. end_after_line_feed (x ∷ l)) (sym (take-append-drop k rest)) ∙ ends_here_more (x ∷ take k rest) (drop k rest) m h

none_ends : (b : List ℕ) → head_end b ≡ None → (k : ℕ) → ¬ EndsWithEmptyLine (take k b)
unfolding head_end
none_ends [] h k e = let l = ends_long (take k []) e in let s : length (take k []) ≡ _ = length-take {A = ℕ} k [] in absurd (omega arith)
none_ends (x ∷ rest) h zero e = short_front 0 (x ∷ rest) (omega arith) e
none_ends (x ∷ rest) h (suc k) e =
    let n = or_none (end_after_line_feed (x ∷ rest)) (option_map suc (head_end rest)) h in
    elim (here_or_later x (take k rest) e) [
      | inl here ↦ (let w = whole_end x k _ rest here in let f : None ≡ Some (suc (length (take k rest))) = sym n.0 ∙ w in absurd (cc f))
      | inr later ↦ none_ends rest (suc_none (head_end rest) n.1) k later
    ]

-- the first n bytes end so, and no fewer do
record First (b : List ℕ) (n : ℕ) : Type 0 where
  ends : EndsWithEmptyLine (take n b)
  shortest : (k : ℕ) → k < n → ¬ EndsWithEmptyLine (take k b)

later_shortest : (x n : ℕ) (rest : List ℕ) → end_after_line_feed (x ∷ rest) ≡ None → ((k : ℕ) → k < n → ¬ EndsWithEmptyLine (take k rest)) → (k : ℕ) → k < suc n → ¬ EndsWithEmptyLine (take k (x ∷ rest))
later_shortest x n rest none go zero less e = short_front 0 (x ∷ rest) (omega arith) e
later_shortest x n rest none go (suc k) less e = elim (here_or_later x (take k rest) e) [
  | inl here ↦ (let w = whole_end x k _ rest here in let f : None ≡ Some (suc (length (take k rest))) = sym none ∙ w in absurd (cc f))
  | inr later ↦ go k (omega arith) later
]

first_later : (x n m : ℕ) (rest : List ℕ) → end_after_line_feed (x ∷ rest) ≡ None → First rest m → n ≡ suc m → First (x ∷ rest) n
first_later x n m rest none f e = record {
  ends = let P : ℕ → Type 0 = λ k. EndsWithEmptyLine (take k (x ∷ rest)) in subst P (sym e) (one_more x (take m rest) f.ends);
  shortest = λ k less. later_shortest x m rest none f.shortest k (omega arith);
}

first_end : (b : List ℕ) (n : ℕ) → head_end b ≡ Some n → First b n
unfolding head_end
first_end [] n h = absurd (cc h)
first_end (x ∷ rest) n h = elim (or_some (end_after_line_feed (x ∷ rest)) (option_map suc (head_end rest)) n h) [
  | inl here ↦ (let f = front_form (x ∷ rest) n here in record { ends = front_ends (x ∷ rest) n f; shortest = front_shortest (x ∷ rest) n f })
  | inr later ↦ (let s = suc_some (head_end rest) n later.1 in first_later x n s.0 rest later.0 (first_end rest s.0 s.1) s.2)
]

-- a front of the first 8,192 bytes is one of the input
take_front : (k : ℕ) (b : List ℕ) → k ≤ max_head → take k (take max_head b) ≡ take k b
take_front k b few = elim (cases_lt (length b) max_head) [
  | inl low ↦ ap (take k) (take_all max_head b (omega arith))
  | inr high ↦ (let l = length-take-le max_head b high in let room : k ≤ length (take max_head b) = omega arith in
      sym (take-append-le k (take max_head b) (drop max_head b) room) ∙ ap (take k) (take-append-drop max_head b))
]

ends_front : (k : ℕ) (b : List ℕ) → k ≤ max_head → EndsWithEmptyLine (take k b) → EndsWithEmptyLine (take k (take max_head b))
ends_front k b few h = let P : List ℕ → Type 0 = λ l. EndsWithEmptyLine l in subst P (sym (take_front k b few)) h

ends_whole : (k : ℕ) (b : List ℕ) → k ≤ max_head → EndsWithEmptyLine (take k (take max_head b)) → EndsWithEmptyLine (take k b)
ends_whole k b few h = let P : List ℕ → Type 0 = λ l. EndsWithEmptyLine l in subst P (take_front k b few) h

some_or_none : (o : Option ℕ) → (o ≡ None) ⊎ ((m : ℕ) × (o ≡ Some m))
some_or_none None = inl refl
some_or_none (Some m) = inr (m, refl)

-- the law, both ways
pub found_first : (b : List ℕ) (n : ℕ) → head_at b ≡ Found n → IsHeadEnd b n
unfolding head_at
found_first b n h =
    let w = found_within b n h in
    let f = first_end (take max_head b) n (place_within (head_end (take max_head b)) (length b) n h) in
    record {
      within = w.0;
      few = w.1;
      ends = ends_whole n b w.1 f.ends;
      shortest = λ k less e. f.shortest k less (ends_front k b (let c = w.1 in omega arith) e);
    }

least_is_one : (b : List ℕ) (m n : ℕ) → First (take max_head b) m → IsHeadEnd b n → m ≡ n
least_is_one b m n f h = let few = h.few in elim (cases_lt m n) [
  | inl less ↦ absurd (h.shortest m less (ends_whole m b (omega arith) f.ends))
  | inr le ↦ elim (cases_lt n m) [
    | inl less ↦ absurd (f.shortest n less (ends_front n b few h.ends))
    | inr ge ↦ omega arith
  ]
]

pub first_found : (b : List ℕ) (n : ℕ) → IsHeadEnd b n → head_at b ≡ Found n
unfolding head_at
first_found b n h = elim (some_or_none (head_end (take max_head b))) [
  | inl none ↦ absurd (none_ends (take max_head b) none n (ends_front n b h.few h.ends))
  | inr s ↦ ap (λ o. head_end_found o (length b)) s.1 ∙ ap Found (least_is_one b s.0 n (first_end (take max_head b) s.0 s.1) h)
]

none_of : (b : List ℕ) → head_end (take max_head b) ≡ None → HasNoHead b
none_of b none k few e = none_ends (take max_head b) none k (ends_front k b few e)

of_none : (b : List ℕ) → HasNoHead b → head_end (take max_head b) ≡ None
of_none b h = elim (some_or_none (head_end (take max_head b))) [
  | inl none ↦ none
  | inr s ↦ (let w = end_within (take max_head b) s.0 s.1 in let l = length-take max_head b in let few : s.0 ≤ max_head = omega arith in
      absurd (h s.0 few (ends_whole s.0 b few (first_end (take max_head b) s.0 s.1).ends)))
]

no_place : (e : Option ℕ) (len : ℕ) → ((n : ℕ) → head_end_found e len ≢ Found n) → e ≡ None
no_place None len h = refl
no_place (Some n) len h = absurd (h n refl)

pub short_none : (b : List ℕ) → head_at b ≡ Short → length b < max_head × HasNoHead b
unfolding head_at
short_none b h = (place_short (head_end (take max_head b)) (length b) h, none_of b (no_place (head_end (take max_head b)) (length b) (λ n e. let f : Short ≡ Found n = sym h ∙ e in cc)))

pub none_short : (b : List ℕ) → length b < max_head × HasNoHead b → head_at b ≡ Short
unfolding head_at
none_short b h = ap (λ o. head_end_found o (length b)) (of_none b h.1) ∙ low_short (length b) h.0

pub large_none : (b : List ℕ) → head_at b ≡ TooLarge → max_head ≤ length b × HasNoHead b
unfolding head_at
large_none b h = (place_large (head_end (take max_head b)) (length b) h, none_of b (no_place (head_end (take max_head b)) (length b) (λ n e. let f : TooLarge ≡ Found n = sym h ∙ e in cc)))

pub none_large : (b : List ℕ) → max_head ≤ length b × HasNoHead b → head_at b ≡ TooLarge
unfolding head_at
none_large b h = ap (λ o. head_end_found o (length b)) (of_none b h.1) ∙ high_large (length b) h.0
