-- The router's rows give the route that the path's parts say.
use Rattle.desk_routes.proofs.Common.{◌≡◌, ℕ, ◌-◌, List, [], ◌∷◌, ◌++◌, ◌<◌, length, drop, ltb, ◌&&◌, length-append, Option, Some, None, Bool, true, false, cond, refl, sym, ap, ◌∙◌, subst, arith, nat_eq, ◌==◌, append-nil, and_right, nat_tests, option_or, starts_with, pointwise, Rows, Seen, prepend, ends, rows_of, param_token, catch_all_token, map_key, seek, first, after_param, has_slash, segment, cuts, longest_suffix, or_else as or_row, IsText, AllSegment, AreSuffixes, first-prefix, own-prepend, seek-empty, Parts, after_prefix, nothing_more, with_byte, cut, by_part, no_more, last_part, all_of}
use Rattle.matchit.proofs.LongestLemmas.{longest-kid}
use Rattle.matchit.proofs.ParamLemmas.{after_param-end, after_param-stop, after_param-kid, one_less}
use Rattle.desk_routes.proofs.RowLemmas.{Leaves, first-beside, first-end, first-rest, first-param, IsText-drop, IsText-after}
use Rattle.office_core.proofs.OptionLemmas.{by_Bool}

-- ---- what a cut says

-- a part is not empty, and has no slash
abbrev pub IsPart : List ℕ → Type 0
IsPart part = (0 < length part) × (has_slash part ≡ false)

abbrev pub CutSays : List ℕ → List ℕ × Option (List ℕ) → Type 0
CutSays path (part, None) = (part ≡ path) × (segment path ≡ path) × (has_slash path ≡ false)
CutSays path (part, Some rest) = (path ≡ part ++ 47 ∷ rest) × (segment path ≡ part ++ 47 ∷ []) × (has_slash path ≡ true) × (has_slash part ≡ false)

pub cut-says : (path : List ℕ) → CutSays path (cut path)
cut-says [] = (refl, refl, refl)
cut-says (b ∷ path) = by (b == 47) refl (cut path) (cut-says path)
  where
    by : (v : Bool) → (b == 47) ≡ v → (pair : List ℕ × Option (List ℕ)) → CutSays path pair → CutSays (b ∷ path) (cond v ([], Some path) (with_byte b pair))
    by true e pair h = let same : b ≡ 47 = grind (arith, nat_tests) in rw same (refl, refl, refl, refl)
    by false e (part, None) h = rw e (ap (λ l. b ∷ l) h.0, ap (λ l. b ∷ l) h.1, h.2)
    by false e (part, Some rest) h = rw e (ap (λ l. b ∷ l) h.0, ap (λ l. b ∷ l) h.1, h.2, h.3)

-- ---- where a segment ends with a slash

last_is : (x : ℕ) (l : List ℕ) → drop (length (x ∷ l) - 1) (x ∷ l) ≡ drop (length l) (x ∷ l)
last_is x l = ap (λ n. drop n (x ∷ l)) (one_less (length l))

pub not_slash : (x : ℕ) (a : Bool) → cond (x == 47) true a ≡ false → ((x == 47) ≡ false) × (a ≡ false)
not_slash x a h = by_Bool (x == 47) (λ slash. let z = rw slash at h in cc) (λ other. (other, rw other at h))

no_slash : (x : ℕ) (l : List ℕ) → has_slash (x ∷ l) ≡ false → pointwise nat_eq (47 ∷ []) (drop (length l) (x ∷ l)) ≡ false
no_slash x [] h = let f = (not_slash x false h).0 in grind (arith, nat_tests)
no_slash x (y ∷ l) h = no_slash y l (not_slash x (has_slash (y ∷ l)) h).1

some_slash : (x : ℕ) (l : List ℕ) → pointwise nat_eq (47 ∷ []) (drop (length (l ++ 47 ∷ [])) (x ∷ l ++ 47 ∷ [])) ≡ true
some_slash x [] = refl
some_slash x (y ∷ l) = some_slash y l

cuts-no : (x : ℕ) (l : List ℕ) → has_slash (x ∷ l) ≡ false → cuts (x ∷ l) (47 ∷ []) ≡ false
cuts-no x l h =
    let f : pointwise nat_eq (47 ∷ []) (drop (length (x ∷ l) - 1) (x ∷ l)) ≡ false = ap (pointwise nat_eq (47 ∷ [])) (last_is x l) ∙ no_slash x l h in
    ap (λ v. ltb 1 (length (x ∷ l)) && v) f ∙ and_right (ltb 1 (length (x ∷ l))) false refl

long : (x : ℕ) (l : List ℕ) → ltb 1 (length (x ∷ l ++ 47 ∷ [])) ≡ true
long x l = let e = length-append l (47 ∷ []) in grind (arith, nat_tests)

cuts-yes : (x : ℕ) (l : List ℕ) → cuts (x ∷ l ++ 47 ∷ []) (47 ∷ []) ≡ true
cuts-yes x l =
    let f : pointwise nat_eq (47 ∷ []) (drop (length (x ∷ l ++ 47 ∷ []) - 1) (x ∷ l ++ 47 ∷ [])) ≡ true = ap (pointwise nat_eq (47 ∷ [])) (last_is x (l ++ 47 ∷ [])) ∙ some_slash x l in
    ap (λ v. ltb 1 (length (x ∷ l ++ 47 ∷ [])) && v) f ∙ ap (λ v. v && true) (long x l)

-- ---- rows that go on with a slash after a parameter

kid : Rows → Seen
kid t = record { prefix = 47 ∷ []; tails = t; height = 0 }

abbrev pub suffix_of : Rows → List Seen
suffix_of [] = []
suffix_of (r ∷ t) = record { prefix = 47 ∷ []; tails = r ∷ t; height = 0 } ∷ []

segs : (t : Rows) → AllSegment (47 ∷ []) (prepend (47 ∷ []) t)
segs [] = tt
segs ((a, k) ∷ t) = (refl, segs t)

good : (t : Rows) → AreSuffixes (suffix_of t)
good [] = tt
good ((a, k) ∷ t) = (record { some_prefix = omega arith; some_rows = omega arith; all_segment = segs ((a, k) ∷ t) }, tt, tt)

rows-are : (t : Rows) → rows_of (suffix_of t) ≡ prepend (47 ∷ []) t
rows-are [] = refl
rows-are (r ∷ t) = append-nil (prepend (47 ∷ []) (r ∷ t))

longest-when : (seg a : List ℕ) (k : ℕ) (t : Rows) (v : Bool) → cuts seg (47 ∷ []) ≡ v → longest_suffix seg (rows_of (suffix_of ((a, k) ∷ t))) ≡ cond v (47 ∷ []) []
longest-when seg a k t v e = ap (longest_suffix seg) (rows-are ((a, k) ∷ t)) ∙ longest-kid seg [] (47 ∷ []) (prepend (47 ∷ []) ((a, k) ∷ t)) (segs ((a, k) ∷ t)) (omega arith) ∙ ap (λ v. cond v (47 ∷ []) []) e

drop-part : (part rest : List ℕ) → drop (length (part ++ 47 ∷ []) - 1) (part ++ 47 ∷ rest) ≡ 47 ∷ rest
drop-part part rest = ap (λ n. drop n (part ++ 47 ∷ rest)) (let e = length-append part (47 ∷ []) in let f : length (part ++ 47 ∷ []) - 1 ≡ length part = omega arith in f) ∙ past part
  where
    past : (part : List ℕ) → drop (length part) (part ++ 47 ∷ rest) ≡ 47 ∷ rest
    past [] = refl
    past (x ∷ part) = past part

-- what the rows after a parameter give, by the part that it takes
abbrev pub part_rows : Option ℕ → Rows → List ℕ × Option (List ℕ) → Option ℕ
part_rows v t ([], rest) = None
part_rows v t (b ∷ part, None) = v
part_rows v t (b ∷ part, Some rest) = first t rest

pub param : (v : Option ℕ) (t : Rows) (b : ℕ) (p : List ℕ) (pair : List ℕ × Option (List ℕ)) → CutSays (b ∷ p) pair → after_param (rows_of (suffix_of t) ++ ends v) (b ∷ p) ≡ part_rows v t pair
param v t b p ([], None) h = absurd (let e = h.0 in cc)
param v [] b p ([], Some rest) h = after_param-stop [] v b p refl h.2
param v [] b p (c ∷ part, None) h = after_param-end [] v b p tt refl h.2
param v [] b p (c ∷ part, Some rest) h = after_param-stop [] v b p refl h.2 ∙ sym (seek-empty 0 rest)
param v ((a, k) ∷ t) b p ([], Some rest) h =
    after_param-stop (suffix_of ((a, k) ∷ t)) v b p (longest-when (segment (b ∷ p)) a k t false (ap (λ s. cuts s (47 ∷ [])) h.1)) h.2
param v ((a, k) ∷ t) b p (c ∷ part, None) h =
    after_param-end (suffix_of ((a, k) ∷ t)) v b p (good ((a, k) ∷ t)) (longest-when (segment (b ∷ p)) a k t false (ap (λ s. cuts s (47 ∷ [])) h.1 ∙ cuts-no b p h.2)) h.2
param v ((a, k) ∷ t) b p (c ∷ part, Some rest) h =
    after_param-kid (suffix_of ((a, k) ∷ t)) 0 (kid []) v b p (good ((a, k) ∷ t)) (omega arith) (sym (longest-when (segment (b ∷ p)) a k t true (ap (λ s. cuts s (47 ∷ [])) h.1 ∙ cuts-yes c part)))
    ∙ ap (first (prepend (47 ∷ []) ((a, k) ∷ t))) (ap (λ s. drop (length s - 1) (b ∷ p)) h.1 ∙ ap (drop (length (c ∷ part ++ 47 ∷ []) - 1)) h.0 ∙ drop-part (c ∷ part) rest)
    ∙ first-prefix (47 ∷ []) ((a, k) ∷ t) (47 ∷ rest) (omega arith, tt)

pub param-says : (key : Parts → ℕ) (v : Option ℕ) (t : Rows) (last : List ℕ → Option Parts) (more : List ℕ → List ℕ → Option Parts) (path : List ℕ) → IsText path
    → ((part : List ℕ) → v ≡ map_key key (last part)) → ((part rest : List ℕ) → IsText rest → first t rest ≡ map_key key (more part rest))
    → first (prepend (param_token ∷ []) (prepend (47 ∷ []) t ++ ends v)) path ≡ map_key key (by_part last more (cut path))
unfolding seek
param-says key v t last more [] text lasts mores = own-prepend param_token [] (prepend (47 ∷ []) t ++ ends v)
param-says key v t last more (b ∷ p) text lasts mores =
    first-param (prepend (47 ∷ []) t ++ ends v) b p text.0 ∙ ap (λ s. after_param (s ++ ends v) (b ∷ p)) (sym (rows-are t)) ∙ param v t b p (cut (b ∷ p)) (cut-says (b ∷ p)) ∙ finish (cut (b ∷ p)) (cut-says (b ∷ p))
  where
    finish : (pair : List ℕ × Option (List ℕ)) → CutSays (b ∷ p) pair → part_rows v t pair ≡ map_key key (by_part last more pair)
    finish ([], rest) h = refl
    finish (c ∷ part, None) h = lasts (c ∷ part)
    finish (c ∷ part, Some rest) h = mores (c ∷ part) rest (IsText-after (c ∷ part) (47 ∷ rest) (subst IsText h.0 text)).1

-- ---- beginnings

pub or-says : (key : Parts → ℕ) (a b : Option Parts) → map_key key (option_or a b) ≡ or_row (map_key key a) (map_key key b)
or-says key None b = refl
or-says key (Some x) b = refl

pub row-after : (key : Parts → ℕ) (w : List ℕ) (t : Rows) (f : List ℕ → Option Parts) (path : List ℕ) → IsText w → IsText path
    → ((rest : List ℕ) → IsText rest → first t rest ≡ map_key key (f rest)) → first (prepend w t) path ≡ map_key key (after_prefix w f path)
row-after key w t f path h text fs =
    rw (first-prefix w t path h) (by_Bool (starts_with nat_eq path w) (λ begins. rw begins (fs (drop (length w) path) (IsText-drop (length w) path text))) (λ other. rw other refl))

pub rows-after : (key : Parts → ℕ) (w : List ℕ) (t r : Rows) (f : List ℕ → Option Parts) (other : Option Parts) (path : List ℕ) → IsText w → Leaves w r → IsText path
    → ((rest : List ℕ) → IsText rest → first t rest ≡ map_key key (f rest)) → first r path ≡ map_key key other
    → first (prepend w t ++ r) path ≡ map_key key (option_or (after_prefix w f path) other)
rows-after key w t r f other path h l text fs others =
    first-beside w t r path h l ∙ ap (λ o. or_row o (first r path)) (row-after key w t f path h text fs) ∙ ap (or_row (map_key key (after_prefix w f path))) others ∙ sym (or-says key (after_prefix w f path) other)

pub end-says : (key : Parts → ℕ) (parts : Parts) (path : List ℕ) → first (ends (Some (key parts))) path ≡ map_key key (nothing_more parts path)
unfolding seek
end-says key parts [] = refl
end-says key parts (b ∷ p) = first-end (key parts) b p

pub all-says : (key : Parts → ℕ) (k : ℕ) (f : List ℕ → Parts) → ((rest : List ℕ) → key (f rest) ≡ k) → (path : List ℕ) → IsText path → first (prepend (catch_all_token ∷ []) (ends (Some k))) path ≡ map_key key (all_of f path)
unfolding seek
all-says key k f same [] text = refl
all-says key k f same (b ∷ p) text = first-rest k b p text.0 ∙ ap Some (sym (same (b ∷ p)))

pub last-says : (key : Parts → ℕ) (k : ℕ) (f : List ℕ → Parts) → ((rest : List ℕ) → key (f rest) ≡ k) → (path : List ℕ) → IsText path → first (prepend (param_token ∷ []) (ends (Some k))) path ≡ map_key key (last_part f path)
last-says key k f same path text = param-says key (Some k) [] (λ part. Some (f part)) no_more path text (λ part. ap Some (sym (same part))) (λ part rest h. seek-empty 0 rest)
