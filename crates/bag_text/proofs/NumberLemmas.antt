-- A number that is read is the number that is spelled, up to the byte that stops it.
use Rattle.bag_text.proofs.Common.{◌≡◌, ℕ, ◌+◌, ◌-◌, ◌*◌, ◌/◌, ◌%◌, ◌^◌, ◌<◌, ◌≤◌, Bool, true, false, eqb, ltb, leb, ◌&&◌, List, [], ◌∷◌, ◌++◌, refl, sym, ap, subst, ◌∙◌, arith, append_assoc, decimal, nat_tests, eqb-true, append-nil, Short, Bad, digits_at, number_at, Ok, Err, is_ascii_digit}
use Rattle.bag_text.proofs.ResultLemmas.{ok_if, ok_is}
use Rattle.std.proofs.lemmas.Fmt.{decimal_digit, decimal_step, decimal_by_steps}
use Rattle.bag_text.proofs.CaseLemmas.{by_Bool}

-- one more digit
pub push_digit : (n b : ℕ) → 0 < n → n * 10 + (b - 48) < 2 ^ 64 → is_ascii_digit b ≡ true → decimal (n * 10 + (b - 48)) ≡ decimal n ++ b ∷ []
push_digit n b lt small digit =
    let low : 48 ≤ b = grind (arith, nat_tests) in
    let high : b ≤ 57 = grind (arith, nat_tests) in
    let front : (n * 10 + (b - 48)) / 10 ≡ n = omega arith in
    let last : 48 + (n * 10 + (b - 48)) % 10 ≡ b = omega arith in
    decimal_step (n * 10 + (b - 48)) (omega arith) small ∙ rw (front, last) refl

-- what was taken: the digits after the first ones
pub record More (most n m : ℕ) (taken : List ℕ) : Type 0 where
  pub spelled : decimal m ≡ decimal n ++ taken
  pub low : n ≤ m
  pub high : m ≤ most

same : (most n : ℕ) → n ≤ most → More most n n []
same most n le = record { spelled = sym (append-nil (decimal n)); low = omega arith; high = le }

and_more : (most n b m : ℕ) (taken : List ℕ) → most < 2 ^ 32 → 0 < n → is_ascii_digit b ≡ true → n * 10 + (b - 48) ≤ most → More most (n * 10 + (b - 48)) m taken → More most n m (b ∷ taken)
and_more most n b m taken small lt digit le h = record {
  spelled = h.spelled ∙ ap (λ (ds : List ℕ). ds ++ taken) (push_digit n b lt (omega arith) digit) ∙ append_assoc (decimal n) (b ∷ []) taken;
  low = let k = h.low in omega arith;
  high = h.high;
}

abbrev may_go : ℕ → ℕ → ℕ → Bool
may_go most n b = is_ascii_digit b && ltb 0 n && leb (n * 10 + (b - 48)) most

pub record Goes (most n b : ℕ) : Type 0 where
  pub digit : is_ascii_digit b ≡ true
  pub above : 0 < n
  pub within : n * 10 + (b - 48) ≤ most

goes : (most n b : ℕ) → may_go most n b ≡ true → Goes most n b
goes most n b e = record { digit = grind (arith, nat_tests); above = grind (arith, nat_tests); within = grind (arith, nat_tests) }

pub digits_ok : (stop most n : ℕ) (t : List ℕ) (m : ℕ) (rest : List ℕ) → most < 2 ^ 32 → n ≤ most → digits_at stop most n t ≡ Ok (m, rest) → (taken : List ℕ) × (t ≡ taken ++ stop ∷ rest) × More most n m taken
unfolding digits_at
digits_ok stop most n [] m rest small le e = absurd cc
digits_ok stop most n (b ∷ t) m rest small le e = by_Bool (eqb b stop)
    (λ is.
    let pair = ok_is (n, t) (m, rest) (rw is at e) in
    let m-is : n ≡ m = ap (λ (p : ℕ × List ℕ). p.0) pair in
    let rest-is : t ≡ rest = ap (λ (p : ℕ × List ℕ). p.1) pair in
    let b-is : b ≡ stop = eqb-true b stop is in
    ([], cc, subst (λ (k : ℕ). More most n k []) m-is (same most n le)))
    (λ isnt.
    let may = ok_if (may_go most n b) (digits_at stop most (n * 10 + (b - 48)) t) Bad (m, rest) (rw isnt at e) in
    let g = goes most n b may.0 in
    let r = digits_ok stop most (n * 10 + (b - 48)) t m rest small g.within may.1 in
    (b ∷ r.0, ap (λ (s : List ℕ). b ∷ s) r.1, and_more most n b m r.0 small g.above g.digit g.within r.2))

-- what a text of digits may still become
pub digits_short : (stop most n : ℕ) (t : List ℕ) → most < 2 ^ 32 → n ≤ most → digits_at stop most n t ≡ Err Short → (m : ℕ) × More most n m t
unfolding digits_at
digits_short stop most n [] small le e = (n, same most n le)
digits_short stop most n (b ∷ t) small le e = by_Bool (eqb b stop) (λ is. let wrong = rw is at e in absurd cc) (λ isnt. by_Bool (may_go most n b)
    (λ may.
    let g = goes most n b may in
    let r = digits_short stop most (n * 10 + (b - 48)) t small g.within (rw (isnt, may) at e) in
    (r.0, and_more most n b r.0 t small g.above g.digit g.within r.1))
    (λ no. let wrong = rw (isnt, no) at e in absurd cc))

-- what is bad stays so, whatever follows
pub digits_bad : (stop most n : ℕ) (t more : List ℕ) → digits_at stop most n t ≡ Err Bad → digits_at stop most n (t ++ more) ≡ Err Bad
unfolding digits_at
digits_bad stop most n [] more e = absurd cc
digits_bad stop most n (b ∷ t) more e = by_Bool (eqb b stop) (λ is. let wrong = rw is at e in absurd cc) (λ isnt. by_Bool (may_go most n b)
    (λ may. rw (isnt, may) (digits_bad stop most (n * 10 + (b - 48)) t more (rw (isnt, may) at e)))
    (λ no. rw (isnt, no) refl))

-- ---- a whole number

-- stop is no digit
abbrev pub Stops : ℕ → Type 0
Stops stop = stop < 48

-- a spelled number goes to its value
pub number_goes : (stop least most : ℕ) → Stops stop → least ≤ 1 → (n : ℕ) → n < 2 ^ 64 → least ≤ n → n ≤ most → (tail : List ℕ) → number_at stop least most (decimal n ++ tail) ≡ digits_at stop most n tail
unfolding number_at digits_at
number_goes stop least most stops low n small =
    decimal_by_steps (λ k ds. least ≤ k → k ≤ most → (tail : List ℕ) → number_at stop least most (ds ++ tail) ≡ digits_at stop most k tail)
    (λ k lt ge le tail.
    let digit : is_ascii_digit (48 + k) ≡ true = grind (arith, nat_tests) in
    let value : 48 + k - 48 ≡ k = omega arith in
    let ok : leb least k ≡ true = grind (arith, nat_tests) in
    rw (digit, value, ok) refl)
    (λ k ds ge10 before ge le tail.
    let one = before (omega arith) (omega arith) ((48 + k % 10) ∷ tail) in
    let digit : is_ascii_digit (48 + k % 10) ≡ true = grind (arith, nat_tests) in
    let other : eqb (48 + k % 10) stop ≡ false = grind (arith, nat_tests) in
    let above : ltb 0 (k / 10) ≡ true = grind (arith, nat_tests) in
    let value : k / 10 * 10 + (48 + k % 10 - 48) ≡ k = omega arith in
    let ok : leb k most ≡ true = grind (arith, nat_tests) in
    rw append_assoc (one ∙ rw (other, digit, above, value, ok) refl))
    n small

pub number_again : (stop least most : ℕ) → Stops stop → least ≤ 1 → (n : ℕ) → n < 2 ^ 64 → least ≤ n → n ≤ most → (rest : List ℕ) → number_at stop least most (decimal n ++ stop ∷ rest) ≡ Ok (n, rest)
unfolding digits_at
number_again stop least most stops low n small ge le rest =
    let same : eqb stop stop ≡ true = grind (arith, nat_tests) in
    number_goes stop least most stops low n small ge le (stop ∷ rest) ∙ rw same refl

-- the bounds of a number
pub record InBounds (least most n : ℕ) : Type 0 where
  pub low : least ≤ n
  pub high : n ≤ most

abbrev may_start : ℕ → ℕ → Bool
may_start least b = is_ascii_digit b && leb least (b - 48)

first_digit : (least b : ℕ) → may_start least b ≡ true → (48 ≤ b) × (b ≤ 57) × (least ≤ b - 48)
first_digit least b e = (grind (arith, nat_tests), grind (arith, nat_tests), grind (arith, nat_tests))

one_digit : (b : ℕ) → 48 ≤ b → b ≤ 57 → decimal (b - 48) ≡ b ∷ []
one_digit b low high =
    let back : 48 + (b - 48) ≡ b = omega arith in
    decimal_digit (b - 48) (omega arith) ∙ rw back refl

pub number_ok : (stop least most : ℕ) → most < 2 ^ 32 → 9 ≤ most → (t : List ℕ) (m : ℕ) (rest : List ℕ) → number_at stop least most t ≡ Ok (m, rest) → (t ≡ decimal m ++ stop ∷ rest) × InBounds least most m
unfolding number_at
number_ok stop least most small nine [] m rest e = absurd cc
number_ok stop least most small nine (b ∷ t) m rest e =
    let start = ok_if (may_start least b) (digits_at stop most (b - 48) t) Bad (m, rest) e in
    let d = first_digit least b start.0 in
    let r = digits_ok stop most (b - 48) t m rest small (let k = d.1 in omega arith) start.1 in
    let spelled : decimal m ≡ b ∷ r.0 = r.2.spelled ∙ ap (λ (ds : List ℕ). ds ++ r.0) (one_digit b d.0 d.1) in
    (ap (λ (x : List ℕ). b ∷ x) r.1 ∙ ap (λ (x : List ℕ). x ++ stop ∷ rest) (sym spelled), record { low = (let j = r.2.low in let k = d.2 in omega arith); high = r.2.high })

pub number_short : (stop least most : ℕ) → most < 2 ^ 32 → 9 ≤ most → least ≤ 1 → (t : List ℕ) → number_at stop least most t ≡ Err Short → (m : ℕ) × (more : List ℕ) × (t ++ more ≡ decimal m) × InBounds least most m
unfolding number_at
number_short stop least most small nine low [] e = (least, decimal least, refl, record { low = omega arith; high = omega arith })
number_short stop least most small nine low (b ∷ t) e = by_Bool (may_start least b)
    (λ is.
    let d = first_digit least b is in
    let r = digits_short stop most (b - 48) t small (let k = d.1 in omega arith) (rw is at e) in
    let spelled : decimal r.0 ≡ b ∷ t = r.1.spelled ∙ ap (λ (ds : List ℕ). ds ++ t) (one_digit b d.0 d.1) in
    (r.0, [], append-nil (b ∷ t) ∙ sym spelled, record { low = (let j = r.1.low in let k = d.2 in omega arith); high = r.1.high }))
    (λ isnt. let wrong = rw isnt at e in absurd cc)

pub number_bad : (stop least most : ℕ) (t more : List ℕ) → number_at stop least most t ≡ Err Bad → number_at stop least most (t ++ more) ≡ Err Bad
unfolding number_at
number_bad stop least most [] more e = absurd cc
number_bad stop least most (b ∷ t) more e =
    by_Bool (may_start least b) (λ is. rw is (digits_bad stop most (b - 48) t more (rw is at e))) (λ isnt. rw isnt refl)
