-- The lines of records.
use Rattle.http_desk.proofs.Common.{◌≡◌, ◌≢◌, ℕ, zero, suc, ◌+◌, ◌/◌, ◌%◌, ◌<◌, ◌≤◌, ◌^◌, ◌==◌, ◌&&◌, Bool, true, false, List, [], ◌∷◌, ◌++◌, length, take, drop, get_or, codes, decimal, Some, refl, sym, ap, ◌∙◌, arith, not, drop-cons, unsigned_abs, nat_lt, bytes_eq, slice_index, list_all, is_ascii_digit, IsAscii, IsUtf8, and_parts, nat_tests, take-append-drop, digits_decimal, length-decimal-le, decimal_injective, decimal_nonempty, Date, line_text, IsLine, HasNoLineFeed, has_marks, length_of}
use Rattle.std.specs.Cmp.Lexicographic.{bytes_decides}
use Rattle.std.proofs.lemmas.Str.{IsUtf8-from_ascii}
use Rattle.std.proofs.lemmas.List.Folds.{list_all-append, list_all_at}
use Rattle.jiff_core.proofs.CalendarLemmas.{days_in_month_bounds}
use Rattle.office_core.specs.Days.{IsDay, day_text}
use Rattle.office_core.proofs.DayLemmas.{day_text-injective, four_digits}
use Rattle.http_desk.proofs.LengthLemmas.{own, length_of-decimal, length_of-says}
use Rattle.office_core.proofs.OptionLemmas.{by_Bool}

-- ---- days

-- ten characters of ASCII
ten_ascii : (a b c d e f g h : ℕ) → a < 10 → b < 10 → c < 10 → d < 10 → e < 10 → f < 10 → g < 10 → h < 10
    → IsAscii ((48 + a) ∷ (48 + b) ∷ (48 + c) ∷ (48 + d) ∷ 45 ∷ (48 + e) ∷ (48 + f) ∷ 45 ∷ (48 + g) ∷ (48 + h) ∷ [])
ten_ascii a b c d e f g h la lb lc ld le lf lg lh zero = omega arith
ten_ascii a b c d e f g h la lb lc ld le lf lg lh (suc zero) = omega arith
ten_ascii a b c d e f g h la lb lc ld le lf lg lh (suc (suc zero)) = omega arith
ten_ascii a b c d e f g h la lb lc ld le lf lg lh (suc (suc (suc zero))) = omega arith
ten_ascii a b c d e f g h la lb lc ld le lf lg lh (suc (suc (suc (suc zero)))) = omega arith
ten_ascii a b c d e f g h la lb lc ld le lf lg lh (suc (suc (suc (suc (suc zero))))) = omega arith
ten_ascii a b c d e f g h la lb lc ld le lf lg lh (suc (suc (suc (suc (suc (suc zero)))))) = omega arith
ten_ascii a b c d e f g h la lb lc ld le lf lg lh (suc (suc (suc (suc (suc (suc (suc zero))))))) = omega arith
ten_ascii a b c d e f g h la lb lc ld le lf lg lh (suc (suc (suc (suc (suc (suc (suc (suc zero)))))))) = omega arith
ten_ascii a b c d e f g h la lb lc ld le lf lg lh (suc (suc (suc (suc (suc (suc (suc (suc (suc zero))))))))) = omega arith
ten_ascii a b c d e f g h la lb lc ld le lf lg lh (suc (suc (suc (suc (suc (suc (suc (suc (suc (suc i)))))))))) = omega arith

pub day_text-utf8 : (d : Date) → IsDay d → IsUtf8 (day_text d)
day_text-utf8 d h =
    let y = unsigned_abs d.year in
    let long = days_in_month_bounds d.year d.month in
    let below = four_digits d h in
    let month : d.month < 100 = omega (arith, d.month_in) in
    let day : d.day < 100 = omega (arith, d.day_in, long) in
    IsUtf8-from_ascii (day_text d) (ten_ascii (y / 100 / 10) (y / 100 % 10) (y % 100 / 10) (y % 100 % 10) (d.month / 10) (d.month % 10) (d.day / 10) (d.day % 10)
    (omega arith) (omega arith) (omega arith) (omega arith) (omega arith) (omega arith) (omega arith) (omega arith))

-- ---- line feeds

abbrev pub not_feed : ℕ → Bool
not_feed c = not (c == 10)

above : (n : ℕ) → not ((48 + n) == 10) ≡ true
above n = grind (arith, nat_tests)

ten_free : (a b c d e f g h : ℕ) → list_all not_feed ((48 + a) ∷ (48 + b) ∷ (48 + c) ∷ (48 + d) ∷ 45 ∷ (48 + e) ∷ (48 + f) ∷ 45 ∷ (48 + g) ∷ (48 + h) ∷ []) ≡ true
ten_free a b c d e f g h = rw (above a, above b, above c, above d, above e, above f, above g, above h) refl

day_free : (d : Date) → list_all not_feed (day_text d) ≡ true
day_free d = let y = unsigned_abs d.year in ten_free (y / 100 / 10) (y / 100 % 10) (y % 100 / 10) (y % 100 % 10) (d.month / 10) (d.month % 10) (d.day / 10) (d.day % 10)

implies : (p r : ℕ → Bool) → ((c : ℕ) → p c ≡ true → r c ≡ true) → (w : List ℕ) → list_all p w ≡ true → list_all r w ≡ true
implies p r f [] e = refl
implies p r f (x ∷ w) e = let h = and_parts (p x) (list_all p w) e in rw (f x h.0, implies p r f w h.1) refl

digit_free : (c : ℕ) → is_ascii_digit c ≡ true → not (c == 10) ≡ true
digit_free c e = grind (arith, nat_tests)

line_free : (day : Date) (n : ℕ) → n ≤ 16800000 → list_all not_feed (line_text day n) ≡ true
unfolding line_text
line_free day n few =
    let b = implies is_ascii_digit not_feed digit_free (decimal n) (digits_decimal own n (omega arith)) in
    list_all-append not_feed (day_text day) (32 ∷ decimal n) ∙ ap (λ v. v && list_all not_feed (32 ∷ decimal n)) (day_free day) ∙ b

no_feed_at : (w : List ℕ) (k : ℕ) → k < length w → list_all not_feed w ≡ true → slice_index w k ≢ 10
no_feed_at w k h all ten =
    by_Bool (not_feed (get_or w k 0)) (λ e. let f : not (get_or w k 0 == 10) ≡ true = e in let t : get_or w k 0 ≡ 10 = ten in grind (arith, nat_tests))
    (λ e. let no = list_all_at not_feed w k 0 h e in let f : true ≡ false = sym all ∙ no in cc)

pub line_text-free : (day : Date) (n : ℕ) → n ≤ 16800000 → HasNoLineFeed (line_text day n)
line_text-free day n few k h = no_feed_at (line_text day n) k h (line_free day n few)

-- texts without a line feed, then one: they part in one way
pub first_feed : (w v x y : List ℕ) → HasNoLineFeed w → HasNoLineFeed v → w ++ 10 ∷ x ≡ v ++ 10 ∷ y → (w ≡ v) × (x ≡ y)
first_feed [] [] x y fw fv e = (refl, cc)
first_feed [] (b ∷ v) x y fw fv e = absurd (fv 0 (omega arith) (let f : b ≡ 10 = cc in f))
first_feed (a ∷ w) [] x y fw fv e = absurd (fw 0 (omega arith) (let f : a ≡ 10 = cc in f))
first_feed (a ∷ w) (b ∷ v) x y fw fv e =
    let same : a ≡ b = cc in
    let h = first_feed w v x y (λ k l. fw (suc k) (omega arith)) (λ k l. fv (suc k) (omega arith)) (let t : w ++ 10 ∷ x ≡ v ++ 10 ∷ y = cc in t) in
    (rw (same, h.0) refl, h.1)

-- ---- lines

pub line_length : (day : Date) (n : ℕ) → n ≤ 16800000 → (15 < length (line_text day n)) × (length (line_text day n) ≤ 23)
unfolding line_text
line_length day n few =
    let big : n < 2 ^ 64 = omega arith in
    let some : 0 < length (decimal n) = decimal_nonempty n big in
    let l8 : length (decimal n) ≤ 8 = length-decimal-le 8 n (omega arith) (omega arith) big in
    (omega arith, omega arith)

-- a line says one thing
pub line_text-injective : (a b : Date) (m n : ℕ) → IsLine a m → IsLine b n → line_text a m ≡ line_text b n → (a ≡ b) × (m ≡ n)
unfolding line_text
line_text-injective a b m n la lb e = (
  day_text-injective a b la.0 lb.0 (ap (λ l. take 10 (drop 4 l)) e),
  decimal_injective m n (let h = la.1 in omega arith) (let h = lb.1 in omega arith) (ap (λ l. drop 15 l) e),
)

cut_line : (line : List ℕ) → 15 < length line → line ≡ take 4 line ++ (take 10 (drop 4 line) ++ (get_or line 14 0 ∷ drop 15 line))
cut_line (a ∷ b ∷ c ∷ d ∷ rest) h = ap (λ l. a ∷ b ∷ c ∷ d ∷ l) (sym (take-append-drop 10 rest) ∙ ap (λ l. take 10 rest ++ l) (drop-cons rest 10 0 (omega arith)))
cut_line _ h = absurd (omega arith)

three : (a b c : Bool) → (a && b && c) ≡ true → (a ≡ true) × (b ≡ true) × (c ≡ true)
three true true true e = (refl, refl, refl)
three _ _ _ e = cc

-- what is read of a line is what it says
pub marked_line : (line : List ℕ) (day : Date) (n : ℕ) → has_marks line ≡ true → take 10 (drop 4 line) ≡ day_text day → length_of (drop 15 line) ≡ Some n → (line ≡ line_text day n) × (n ≤ 16800000)
unfolding line_text
marked_line line day n marks is_day is_length =
    let t = three (nat_lt 15 (length line)) (bytes_eq (take 4 line) (codes "REQ ")) (slice_index line 14 == 32) marks in
    let long : 15 < length line = let z : nat_lt 15 (length line) ≡ true = t.0 in grind (arith, nat_tests) in
    let blank : get_or line 14 0 ≡ 32 = let z : (get_or line 14 0 == 32) ≡ true = t.2 in grind (arith, nat_tests) in
    let l = length_of-says (drop 15 line) n is_length in (
      cut_line line long ∙ ap (λ l. l ++ (take 10 (drop 4 line) ++ (get_or line 14 0 ∷ drop 15 line))) ((bytes_decides (take 4 line) (codes "REQ ")).0 t.1)
          ∙ ap (λ l. codes "REQ " ++ (l ++ (get_or line 14 0 ∷ drop 15 line))) is_day ∙ ap (λ b. codes "REQ " ++ (day_text day ++ (b ∷ drop 15 line))) blank ∙ ap (λ l. codes "REQ " ++ (day_text day ++ (32 ∷ l))) l.0,
      l.1,
    )

-- and the other way round
pub line_marks : (line : List ℕ) (day : Date) (n : ℕ) → IsLine day n → line ≡ line_text day n → has_marks line ≡ true
unfolding line_text
line_marks line day n h e =
    let long : nat_lt 15 (length line) ≡ true = let l = (line_length day n h.1).0 in let s : length line ≡ length (line_text day n) = ap length e in grind (arith, nat_tests) in
    let word : bytes_eq (take 4 line) (codes "REQ ") ≡ true = ap (λ l. bytes_eq (take 4 l) (codes "REQ ")) e in
    let blank : (slice_index line 14 == 32) ≡ true = ap (λ l. slice_index l 14 == 32) e in
    rw (long, word, blank) refl

pub line_day : (line : List ℕ) (day : Date) (n : ℕ) → line ≡ line_text day n → take 10 (drop 4 line) ≡ day_text day
unfolding line_text
line_day line day n e = ap (λ l. take 10 (drop 4 l)) e

pub line_count : (line : List ℕ) (day : Date) (n : ℕ) → n ≤ 16800000 → line ≡ line_text day n → length_of (drop 15 line) ≡ Some n
unfolding line_text
line_count line day n few e = ap (λ l. length_of (drop 15 l)) e ∙ length_of-decimal n few
