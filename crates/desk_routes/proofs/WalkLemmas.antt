-- What the parameters of a route take of its path.
use Rattle.desk_routes.proofs.Common.{◌≡◌, ℕ, ◌≤◌, ◌+◌, ◌-◌, ◌==◌, List, [], ◌∷◌, ◌++◌, length, drop, take, get_or, Bool, true, false, refl, sym, ap, ◌∙◌, arith, append-nil, ltb, leb, ◌&&◌, length-append, nat_tests, take-append_seam, drop-append_seam, walk, wild_from, wild_stop, part_of, after_token, param_token, has_slash, segment, IsText}
use Rattle.office_core.proofs.OptionLemmas.{by_Bool}

pair : (a b c d : ℕ) → a ≡ c → b ≡ d → ◌≡◌ {A = ℕ × ℕ} (a, b) (c, d)
pair a b c d e f = rw (e, f) refl

-- the parameter after a literal
pub wild_from-says : (w tail : List ℕ) (x len token at : ℕ) → IsText w → ltb x param_token ≡ false → at + length w ≤ len → wild_from (w ++ x ∷ tail) len token at ≡ (token + length w, at + length w)
wild_from-says [] tail x len token at text e room = rw e (pair _ _ _ _ (omega arith) (omega arith))
wild_from-says (b ∷ w) tail x len token at text e room =
    let lit : ltb b param_token ≡ true = let h = text.0 in grind (arith, nat_tests) in
    let more : ltb at len ≡ true = grind (arith, nat_tests) in
    rw (lit, more) (wild_from-says w tail x len (token + 1) (at + 1) text.1 e (omega arith) ∙ pair _ _ _ _ (omega arith) (omega arith))

pub part_of-says : (a b c path : List ℕ) (start end : ℕ) → path ≡ a ++ (b ++ c) → start ≡ length a → end ≡ length a + length b → part_of path start end ≡ b
part_of-says a b c path start end e s f =
    let len : length path ≡ length a + (length b + length c) = ap length e ∙ length-append a (b ++ c) ∙ ap (λ n. length a + n) (length-append b c) in
    let ok : (leb start end && leb end (length path)) ≡ true = grind (arith, nat_tests) in
    let size : end - start ≡ length b = omega arith in
    rw ok (ap (λ n. take n (drop start path)) size ∙ ap (λ n. take (length b) (drop n path)) s ∙ ap (λ l. take (length b) (drop (length a) l)) e ∙ ap (take (length b)) (drop-append_seam a (b ++ c)) ∙ take-append_seam b c)

pub segment-says : (part rest : List ℕ) → has_slash part ≡ false → segment (part ++ 47 ∷ rest) ≡ part ++ 47 ∷ []
segment-says [] rest h = refl
segment-says (b ∷ part) rest h =
    by_Bool (b == 47) (λ slash. absurd (let z = rw slash at h in cc)) (λ other. rw other (ap (λ l. b ∷ l) (segment-says part rest (rw other at h))))

-- whether more of the route follows a parameter
abbrev pub more_follows : List ℕ → ℕ → Bool
more_follows pattern token = ltb token (length pattern) && (get_or pattern token 0 == param_token) && ltb (token + 1) (length pattern)

-- the last parameter takes all that is left
pub takes-rest : (before w tail : List ℕ) (x token : ℕ) (pattern text path a part : List ℕ) (name : ℕ × ℕ) (at here resource : ℕ) → drop token pattern ≡ w ++ x ∷ tail → IsText w → ltb x param_token ≡ false
    → path ≡ a ++ part → at + length w ≡ length a → token + length w ≡ here → more_follows pattern here ≡ false
    → walk pattern text path (name ∷ []) token at ≡ (part_of text name.0 name.1, part) ∷ []
takes-rest before w tail x token pattern text path a part name at here resource p t e is room here_is stops =
    let len : length path ≡ length a + length part = ap length is ∙ length-append a part in
    let from : wild_from (drop token pattern) (length path) token at ≡ (here, length a) = ap (λ l. wild_from l (length path) token at) p ∙ wild_from-says w tail x (length path) token at t e (omega arith) ∙ pair _ _ _ _ here_is room in
    rw (from, stops) (ap (λ l. (part_of text name.0 name.1, l) ∷ []) (part_of-says a part [] path (length a) (length path) (is ∙ ap (λ l. a ++ l) (sym (append-nil part))) refl len))

-- a parameter that more follows takes the part before the slash
pub takes-part : (w tail : List ℕ) (token : ℕ) (pattern text path a part rest : List ℕ) (name : ℕ × ℕ) (names : List (ℕ × ℕ)) (at here : ℕ) → drop token pattern ≡ w ++ param_token ∷ tail → IsText w
    → path ≡ a ++ (part ++ 47 ∷ rest) → has_slash part ≡ false → at + length w ≡ length a → token + length w ≡ here → more_follows pattern here ≡ true → length (segment (drop (here + 1) pattern)) ≡ 1
    → walk pattern text path (name ∷ names) token at ≡ (part_of text name.0 name.1, part) ∷ walk pattern text path names (after_token here) (length a + length part)
takes-part w tail token pattern text path a part rest name names at here p t is plain room here_is goes one =
    let len : length path ≡ length a + (length part + length (47 ∷ rest)) = ap length is ∙ length-append a (part ++ 47 ∷ rest) ∙ ap (λ n. length a + n) (length-append part (47 ∷ rest)) in
    let from : wild_from (drop token pattern) (length path) token at ≡ (here, length a) = ap (λ l. wild_from l (length path) token at) p ∙ wild_from-says w tail param_token (length path) token at t refl (omega arith) ∙ pair _ _ _ _ here_is room in
    let seg : length (segment (drop (length a) path)) ≡ length part + 1 = ap (λ l. length (segment (drop (length a) l))) is ∙ ap (λ l. length (segment l)) (drop-append_seam a (part ++ 47 ∷ rest)) ∙ ap length (segment-says part rest plain) ∙ length-append part (47 ∷ []) in
    let stop : wild_stop pattern here path (length a) ≡ length a + length part = rw (goes, seg, one) (omega arith) in
    rw (from, stop) (ap (λ l. (part_of text name.0 name.1, l) ∷ walk pattern text path names (after_token here) (length a + length part)) (part_of-says a part (47 ∷ rest) path (length a) (length a + length part) is refl refl))
