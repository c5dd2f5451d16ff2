-- What a record's line and the bytes after it say of all the bytes.
use Rattle.http_desk.proofs.Common.{◌≡◌, ◌≢◌, ℕ, zero, suc, ◌+◌, ◌-◌, ◌<◌, ◌≤◌, ◌==◌, Bool, true, false, List, [], ◌∷◌, ◌++◌, length, take, drop, get_or, position, Option, Some, None, refl, sym, ap, ◌∙◌, subst, arith, min, add-one, drop-cons, length-append, length-drop, append_assoc, append-nil, inl, inr, not, cond, take_all, replicate, nat_lt, slice_index, prefix_len, nat_tests, cases_lt, length-take, take-append-drop, get_or-take, length-replicate, Date, line_text, record_text, IsLine, IsRecord, HasNoLineFeed, HasLine, WantsMore, BeginsWithNone, CanNotBegin, LineSays, Whole, More, Bad}
use Rattle.std.proofs.lemmas.List.Quantifiers.{position-Some}
use Rattle.std.proofs.Math.ListN.{get_or-append}
use Rattle.std.proofs.Math.Seq.{take-append_seam, drop-append-add, get_or-append_seam}
use Rattle.http_desk.specs.Finds.{FoundIn, whole_of}
use Rattle.http_desk.specs.declared.record.Found.{Found}
use Rattle.http_desk.proofs.LineLemmas.{line_text-free, line_text-injective, line_length, first_feed}
use Rattle.office_core.proofs.OptionLemmas.{by_Bool}

-- ---- the first line

feed : ℕ → Bool
feed c = c == 10

past_free : (a : List ℕ) → length a ≤ prefix_len (λ c. not (c == 10)) a → HasNoLineFeed a
past_free [] h k l = absurd (omega arith)
past_free (x ∷ a) h k l = by (x == 10) refl h (past_free a) k l
  where
    by : (v : Bool) → (x == 10) ≡ v → length (x ∷ a) ≤ cond (not v) (1 + prefix_len (λ c. not (c == 10)) a) 0 → (length a ≤ prefix_len (λ c. not (c == 10)) a → HasNoLineFeed a) → HasNoLineFeed (x ∷ a)
    by true e h ih k l = absurd (omega arith)
    by false e h ih zero l = λ (ten : x ≡ 10). (let f : (x == 10) ≡ true = grind (arith, nat_tests) in let g : true ≡ false = sym f ∙ e in cc)
    by false e h ih (suc k) l = ih (omega arith) k (omega arith)

place_none : (a : List ℕ) → position (λ c. c == 10) a ≡ None → HasNoLineFeed a
place_none a e =
    past_free a (by_Bool (nat_lt (prefix_len (λ c. not (c == 10)) a) (length a)) (λ within. absurd (let z = rw within at e in cc)) (λ past. grind (arith, nat_tests, past)))

take_min : (b : List ℕ) (n m : ℕ) → m ≡ min (length b) n → take m b ≡ take n b
take_min b n m e = elim (cases_lt (length b) n) [
  | inl low ↦ take_all m b (omega arith) ∙ sym (take_all n b (omega arith))
  | inr high ↦ ap (λ k. take k b) (let f : m ≡ n = omega arith in f)
]

pub no_feed_in_front : (b : List ℕ) (m : ℕ) → m ≡ min (length b) 24 → None ≡ position (λ c. c == 10) (take m b) → HasNoLineFeed (take 24 b)
no_feed_in_front b m e none = subst (λ l. HasNoLineFeed l) (take_min b 24 m e) (place_none (take m b) (sym none))

before_free : (b : List ℕ) (m at : ℕ) → at < m → ((k : ℕ) → k < at → (get_or (take m b) k 0 == 10) ≡ false) → HasNoLineFeed (take at b)
before_free b m at in_m others k l ten =
    let t = length-take at b in
    let here : get_or (take m b) k 0 ≡ 10 = get_or-take m b k 0 (omega arith) ∙ sym (get_or-take at b k 0 (omega arith)) ∙ ten in
    let no = others k (omega arith) in
    let yes : (get_or (take m b) k 0 == 10) ≡ true = grind (arith, nat_tests) in
    let f : true ≡ false = sym yes ∙ no in cc

pub cut_at : (b : List ℕ) (m at : ℕ) → Some at ≡ position (λ c. c == 10) (take m b) → HasNoLineFeed (take at b) × (b ≡ take at b ++ 10 ∷ take (length b - (at + 1)) (drop (at + 1) b))
cut_at b m at e =
    let s = position-Some (λ c. c == 10) (take m b) at 0 (sym e) in
    let l = length-take m b in
    let in_take : at < length (take m b) = s.0 in
    let in_m : at < m = omega arith in
    let within : at < length b = omega arith in
    let test : (get_or (take m b) at 0 == 10) ≡ true = s.1 in
    let ten_in : get_or (take m b) at 0 ≡ 10 = grind (arith, nat_tests) in
    let ten : get_or b at 0 ≡ 10 = sym (get_or-take m b at 0 in_m) ∙ ten_in in
    let tail : take (length b - (at + 1)) (drop (at + 1) b) ≡ drop (at + 1) b = take_all (length b - (at + 1)) (drop (at + 1) b) (simp length-drop (omega arith)) in (
      before_free b m at in_m s.2,
      sym (take-append-drop at b) ∙ ap (λ l. take at b ++ l) (drop-cons b at 0 within ∙ ap (λ x. x ∷ drop (suc at) b) ten ∙ ap (λ k. 10 ∷ drop k b) (sym (add-one at)) ∙ ap (λ l. 10 ∷ l) (sym tail)),
    )

-- ---- records

-- a record and what follows it, its line first
pub spelled_out : (day : Date) (bytes rest : List ℕ) → record_text day bytes ++ rest ≡ line_text day (length bytes) ++ 10 ∷ (bytes ++ 10 ∷ rest)
unfolding record_text
spelled_out day bytes rest = append_assoc (line_text day (length bytes)) (10 ∷ (bytes ++ 10 ∷ [])) rest ∙ ap (λ x. line_text day (length bytes) ++ 10 ∷ x) (append_assoc bytes (10 ∷ []) rest)

-- bytes of one number before a line feed
same_bytes : (a b x y : List ℕ) → length a ≡ length b → a ++ 10 ∷ x ≡ b ++ 10 ∷ y → (a ≡ b) × (x ≡ y)
same_bytes a b x y len e = (
  sym (take-append_seam a (10 ∷ x)) ∙ ap (λ l. take (length a) l) e ∙ ap (λ n. take n (b ++ 10 ∷ y)) len ∙ take-append_seam b (10 ∷ y),
  sym (drop-append-add a (10 ∷ x) 1) ∙ ap (λ l. drop (length a + 1) l) e ∙ ap (λ n. drop (n + 1) (b ++ 10 ∷ y)) len ∙ drop-append-add b (10 ∷ y) 1,
)

pub one_record : (day day' : Date) (bytes bytes' rest rest' : List ℕ) → IsRecord day bytes → IsRecord day' bytes' → record_text day bytes ++ rest ≡ record_text day' bytes' ++ rest'
    → (day ≡ day') × (bytes ≡ bytes') × (rest ≡ rest')
one_record day day' bytes bytes' rest rest' is is' e =
    let all = sym (spelled_out day bytes rest) ∙ e ∙ spelled_out day' bytes' rest' in
    let h = first_feed (line_text day (length bytes)) (line_text day' (length bytes')) (bytes ++ 10 ∷ rest) (bytes' ++ 10 ∷ rest') (line_text-free day (length bytes) is.1) (line_text-free day' (length bytes') is'.1) all in
    let line = line_text-injective day day' (length bytes) (length bytes') is is' h.0 in
    let body = same_bytes bytes bytes' rest rest' line.1 h.1 in
    (line.0, body.0, body.1)

-- a record has its first line feed after its line
feed_place : (input : List ℕ) (day : Date) (bytes rest : List ℕ) → input ≡ record_text day bytes ++ rest → (length (line_text day (length bytes)) < length input) × (get_or input (length (line_text day (length bytes))) 0 ≡ 10)
feed_place input day bytes rest e =
    let all = e ∙ spelled_out day bytes rest in
    let len : length input ≡ length (line_text day (length bytes)) + length (10 ∷ (bytes ++ 10 ∷ rest)) = ap length all ∙ length-append (line_text day (length bytes)) (10 ∷ (bytes ++ 10 ∷ rest)) in
    (omega arith, ap (λ l. get_or l (length (line_text day (length bytes))) 0) all ∙ get_or-append_seam (line_text day (length bytes)) 10 (bytes ++ 10 ∷ rest) 0)

-- where more bytes are wanted, there is no record yet
pub wanted_none : (input : List ℕ) → WantsMore input → BeginsWithNone input
wanted_none input (inl h) day bytes rest is e = let f = feed_place input day bytes rest e in h.1 (length (line_text day (length bytes))) f.0 f.1
wanted_none input (inr h) day bytes rest is e =
    let all = sym h.text ∙ e ∙ spelled_out day bytes rest in
    let few = h.is_line in
    let parts = first_feed (line_text h.day h.count) (line_text day (length bytes)) h.body (bytes ++ 10 ∷ rest) (line_text-free h.day h.count few.1) (line_text-free day (length bytes) is.1) all in
    let line = line_text-injective h.day day h.count (length bytes) h.is_line is parts.0 in
    let len : length h.body ≡ length bytes + length (10 ∷ rest) = ap length parts.1 ∙ length-append bytes (10 ∷ rest) in
    let count : h.count ≡ length bytes = line.1 in
    let short : length h.body ≤ h.count = h.short in
    omega arith

pub wanted_short : (input : List ℕ) → WantsMore input → length input ≤ 16800024
wanted_short input (inl h) = let l = h.0 in omega arith
wanted_short input (inr h) =
    let len : length input ≡ length (line_text h.day h.count) + length (10 ∷ h.body) = ap length h.text ∙ length-append (line_text h.day h.count) (10 ∷ h.body) in
    let few : h.count ≤ 16800000 = h.is_line.1 in
    let line = (line_length h.day h.count few).1 in
    let short : length h.body ≤ h.count = h.short in
    omega arith

-- a line that has come is completed
pub line_begins : (input : List ℕ) → HasLine input → ¬ CanNotBegin input
line_begins input h never =
    let short : length h.body ≤ h.count = h.short in
    let len : length (h.body ++ replicate (h.count - length h.body) 0) ≡ h.count = length-append h.body (replicate (h.count - length h.body) 0) ∙ ap (λ n. length h.body + n) (length-replicate (h.count - length h.body) 0) ∙ (let z : length h.body + (h.count - length h.body) ≡ h.count = omega arith in z) in
    let few : length (h.body ++ replicate (h.count - length h.body) 0) ≤ 16800000 = let f = h.is_line.1 in omega arith in
    never (replicate (h.count - length h.body) 0 ++ 10 ∷ []) h.day (h.body ++ replicate (h.count - length h.body) 0) [] (h.is_line.0, few)
    (ap (λ l. l ++ (replicate (h.count - length h.body) 0 ++ 10 ∷ [])) h.text
    ∙ append_assoc (line_text h.day h.count) (10 ∷ h.body) (replicate (h.count - length h.body) 0 ++ 10 ∷ [])
    ∙ ap (λ l. line_text h.day h.count ++ 10 ∷ l) (sym (append_assoc h.body (replicate (h.count - length h.body) 0) (10 ∷ [])))
    ∙ ap (λ n. line_text h.day n ++ 10 ∷ ((h.body ++ replicate (h.count - length h.body) 0) ++ 10 ∷ [])) (sym len)
    ∙ sym (spelled_out h.day (h.body ++ replicate (h.count - length h.body) 0) []))

-- ---- what is found

pub no_line : (b : List ℕ) → length b < 24 → HasNoLineFeed (take 24 b) → WantsMore b
no_line b short free = inl (short, subst (λ l. HasNoLineFeed l) (take_all 24 b (omega arith)) free)

pub long_line : (b : List ℕ) → 24 ≤ length b → HasNoLineFeed (take 24 b) → CanNotBegin b
long_line b long free others day bytes rest is e =
    let f = feed_place (b ++ others) day bytes rest e in
    let line = (line_length day (length bytes) is.1).1 in
    let n : length (line_text day (length bytes)) < 24 = omega arith in
    let t = length-take 24 b in
    let same : get_or (take 24 b) (length (line_text day (length bytes))) 0 ≡ 10 = get_or-take 24 b (length (line_text day (length bytes))) 0 n ∙ sym (get_or-append b others 0 (length (line_text day (length bytes))) (omega arith)) ∙ f.1 in
    free (length (line_text day (length bytes))) (omega arith) same

-- a line that says nothing else, and bytes after it that no line feed closes
never_closed : (input line body : List ℕ) → HasNoLineFeed line → input ≡ line ++ 10 ∷ body
    → ((day : Date) (count : ℕ) → IsLine day count → line ≡ line_text day count → (count < length body) × (slice_index body count ≢ 10)) → CanNotBegin input
never_closed input line body free e says others day bytes rest is same =
    let all : line ++ 10 ∷ (body ++ others) ≡ line_text day (length bytes) ++ 10 ∷ (bytes ++ 10 ∷ rest)
    = sym (append_assoc line (10 ∷ body) others) ∙ ap (λ l. l ++ others) (sym e) ∙ same ∙ spelled_out day bytes rest in
    let parts = first_feed line (line_text day (length bytes)) (body ++ others) (bytes ++ 10 ∷ rest) free (line_text-free day (length bytes) is.1) all in
    let s = says day (length bytes) is parts.0 in
    s.1 (sym (get_or-append body others 0 (length bytes) s.0) ∙ ap (λ l. get_or l (length bytes) 0) parts.1 ∙ get_or-append_seam bytes 10 rest 0)

pub found_in : (f : Found) (input line body : List ℕ) → HasNoLineFeed line × (input ≡ line ++ 10 ∷ body) → LineSays f line body → FoundIn f input
found_in (Whole day bytes rest) input line body cut says =
    (says.0, cut.1 ∙ ap (λ l. l ++ 10 ∷ body) says.1 ∙ ap (λ l. line_text day (length bytes.now) ++ 10 ∷ l) says.2 ∙ sym (spelled_out day bytes.now rest.now))
found_in More input line body cut says = inr (record { day = says.0; count = says.1; body = body; is_line = says.2; text = cut.1 ∙ ap (λ l. l ++ 10 ∷ body) says.3; short = says.4 })
found_in Bad input line body cut says = never_closed input line body cut.0 cut.1 says

same_whole : (a b : Date) (x y r s : List ℕ) → a ≡ b → x ≡ y → r ≡ s → ◌≡◌ {A = Option (Date × List ℕ × List ℕ)} (Some (a, x, r)) (Some (b, y, s))
same_whole a b x y r s e f g = rw (e, f, g) refl

pub only_found : (f : Found) (input : List ℕ) → FoundIn f input → (day : Date) (request rest : List ℕ) → IsRecord day request → input ≡ record_text day request ++ rest → whole_of f ≡ Some (day, request, rest)
only_found (Whole d bytes r) input says day request rest is e = let s = one_record d day bytes.now request r.now rest says.0 is (sym says.1 ∙ e) in same_whole d day bytes.now request r.now rest s.0 s.1 s.2
only_found More input says day request rest is e = absurd (wanted_none input says day request rest is e)
only_found Bad input says day request rest is e = absurd (says [] day request rest is (append-nil input ∙ e))
