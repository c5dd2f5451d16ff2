-- What a router's rows answer, a beginning at a time.
use Rattle.desk_routes.proofs.Common.{◌≡◌, ℕ, zero, suc, ◌-◌, ◌<◌, ◌≤◌, List, [], ◌∷◌, ◌++◌, drop, Option, Some, None, refl, sym, ap, ◌∙◌, arith, ◌==◌, append-nil, nat_tests, Rows, prepend, ends, param_token, catch_all_token, own, step, or_else, seek, first, param_step, after_param, IsText, own-append, step-append, step-hit, step-miss, or_else-none, param_step-empty, seek-empty, seek-lit, prepend-nil}
use Rattle.office_core.proofs.OptionLemmas.{by_Bool}

-- no row goes on after this beginning
abbrev pub Leaves : List ℕ → Rows → Type 0
Leaves [] r = r ≡ []
Leaves (x ∷ w) r = Leaves w (step x r)

or_else-assoc : (a b c : Option ℕ) → or_else (or_else a b) c ≡ or_else a (or_else b c)
or_else-assoc None b c = refl
or_else-assoc (Some k) b c = refl

-- what the rows give that do not go on with the next byte
abbrev pub others : ℕ → List ℕ → Rows → Option ℕ
others y p r = or_else (seek ((param_step (step param_token r) (y ∷ p)).0 - 1) (param_step (step param_token r) (y ∷ p)).1 p) (own (step catch_all_token r))

wild : (b x : ℕ) (w : List ℕ) (t r : Rows) → x < 256 → 256 ≤ b → step b (prepend (x ∷ w) t ++ r) ≡ step b r
wild b x w t r small big = step-append b (prepend (x ∷ w) t) r ∙ ap (λ l. l ++ step b r) (step-miss b x w t (λ e. omega arith))

beside-step : (x : ℕ) (w : List ℕ) (t r : Rows) (y : ℕ) (p : List ℕ) → x < 256 → first (prepend (x ∷ w) t ++ r) (y ∷ p) ≡ or_else (seek 0 (step y (prepend (x ∷ w) t) ++ step y r) p) (others y p r)
unfolding seek
beside-step x w t r y p small = rw (wild param_token x w t r small (omega arith), wild catch_all_token x w t r small (omega arith), step-append y (prepend (x ∷ w) t) r) refl

-- rows that all begin so come beside rows of which none does
pub first-beside : (w : List ℕ) (t r : Rows) (path : List ℕ) → IsText w → Leaves w r → first (prepend w t ++ r) path ≡ or_else (first (prepend w t) path) (first r path)
unfolding seek
first-beside [] t r path h l = rw (l, append-nil, seek-empty 0 path, or_else-none) refl
first-beside (x ∷ w) t r [] h l = own-append (prepend (x ∷ w) t) r
first-beside (x ∷ w) t r (y ∷ p) h l =
    let ih = first-beside w t (step x r) p h.1 l in
    by_Bool (x == y)
    (λ e.
    let xy : x ≡ y = grind (arith, nat_tests) in
    let hit : step y (prepend (x ∷ w) t) ≡ prepend w t = rw xy (step-hit y w t) in
    let same : first (prepend w t ++ step y r) p ≡ or_else (first (prepend w t) p) (first (step y r) p) = rw xy at ih in
    beside-step x w t r y p h.0 ∙ ap (λ l. or_else (seek 0 (l ++ step y r) p) (others y p r)) hit ∙ ap (λ o. or_else o (others y p r)) same
    ∙ or_else-assoc (first (prepend w t) p) (first (step y r) p) (others y p r)
    ∙ sym (ap (λ o. or_else o (first r (y ∷ p))) (seek-lit x w t y p h.0 ∙ ap (λ l. seek 0 l p) hit)))
    (λ e.
    let miss : step y (prepend (x ∷ w) t) ≡ [] = step-miss y x w t (λ q. grind (arith, nat_tests)) in
    beside-step x w t r y p h.0 ∙ ap (λ l. or_else (seek 0 (l ++ step y r) p) (others y p r)) miss
    ∙ sym (ap (λ o. or_else o (first r (y ∷ p))) (seek-lit x w t y p h.0 ∙ ap (λ l. seek 0 l p) miss ∙ seek-empty 0 p)))

-- the byte bound, of what is left
pub IsText-drop : (n : ℕ) (path : List ℕ) → IsText path → IsText (drop n path)
IsText-drop zero path h = h
IsText-drop (suc n) [] h = tt
IsText-drop (suc n) (b ∷ path) h = IsText-drop n path h.1

pub IsText-after : (a b : List ℕ) → IsText (a ++ b) → IsText b
IsText-after [] b h = h
IsText-after (x ∷ a) b h = IsText-after a b h.1

pub first-end : (k : ℕ) (b : ℕ) (p : List ℕ) → first (ends (Some k)) (b ∷ p) ≡ None
unfolding seek
first-end k b p = simp (seek-empty 0 p, param_step-empty (b ∷ p), seek-empty ((param_step {K = ℕ} [] (b ∷ p)).0 - 1) p)

pub first-rest : (k : ℕ) (b : ℕ) (p : List ℕ) → b < 256 → first (prepend (catch_all_token ∷ []) (ends (Some k))) (b ∷ p) ≡ Some k
unfolding seek
first-rest k b p small =
    let m : step b (prepend (catch_all_token ∷ []) (ends (Some k))) ≡ [] = step-miss b catch_all_token [] (ends (Some k)) (λ e. omega arith) in
    rw (m, seek-empty 0 p) (simp (param_step-empty (b ∷ p), seek-empty ((param_step {K = ℕ} [] (b ∷ p)).0 - 1) p))

-- rows that all begin with a parameter
pub first-param : (s : Rows) (b : ℕ) (p : List ℕ) → b < 256 → first (prepend (param_token ∷ []) s) (b ∷ p) ≡ after_param s (b ∷ p)
unfolding seek
first-param s b p small =
    let m : step b (prepend (param_token ∷ []) s) ≡ [] = step-miss b param_token [] s (λ e. omega arith) in
    let c : step catch_all_token (prepend (param_token ∷ []) s) ≡ [] = step-miss catch_all_token param_token [] s (λ e. omega arith) in
    let h : step param_token (prepend (param_token ∷ []) s) ≡ s = step-hit param_token [] s ∙ prepend-nil s in
    rw (m, c, h, seek-empty 0 p, or_else-none) refl
