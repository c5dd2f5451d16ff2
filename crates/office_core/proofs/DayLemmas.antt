-- Days: one date has one text, and the numbers of the days.
use Rattle.office_core.proofs.Common.{◌≡◌, ◌==◌, ◌&&◌, ◌||◌, not, Bool, true, false, if◌then◌else◌, ℕ, Some, ◌+◌, ◌*◌, ◌/◌, ◌%◌, ◌<◌, ◌≤◌, ◌++◌, ◌∷◌, [], List, ℤ, pos, negsuc, neg_ℤ, ◌≤ℤ◌, unsigned_abs, refl, sym, ap, subst, ◌∙◌, inl, arith, rules, by_lt_z, IsInRange, signed_arith, Date, epoch_day, IsYear, IsDate, is_leap_year, days_in_month, same_Some, first_year, last_year, first_day, last_day, first_day_number, last_day_number, IsDay, IsDayNumber, day_text, digits, is_missing, number_of, day_parts}
use Rattle.std.proofs.Props.{props}
use mathlib.Core.HLevel.{is_prop→PathP}
use Rattle.jiff_core.specs.Calendar.{days_from_civil}
use Rattle.jiff_core.proofs.MarchLemmas.{day_count-early}
use Rattle.jiff_core.proofs.CalendarLemmas.{days_from_civil-day_count, days_in_month_bounds}
use Rattle.jiff_core.proofs.DateLemmas.{epoch_day-lt, days_from_civil-next_year}
use Rattle.office_core.proofs.OptionLemmas.{some_if, some_and_then, by_Bool}

-- a date is its year, month and day
pub same_date : (a b : Date) → a.year ≡ b.year → a.month ≡ b.month → a.day ≡ b.day → a ≡ b
same_date a b year month day = λ i. record {
  year = year i;
  month = month i;
  day = day i;
  year_in = is_prop→PathP (λ j. IsYear (year j)) (λ j. hlevel props) a.year_in b.year_in i;
  month_in = is_prop→PathP (λ j. IsInRange 1 12 (month j)) (λ j. hlevel props) a.month_in b.month_in i;
  day_in = is_prop→PathP (λ j. IsInRange 1 (days_in_month (year j) (month j)) (day j)) (λ j. hlevel props) a.day_in b.day_in i;
}

day_before : Date
day_before = record { year = pos 1899; month = 12; day = 31; year_in = search rules; month_in = search rules; day_in = search rules }

day_after : Date
day_after = record { year = pos 9800; month = 1; day = 1; year_in = search rules; month_in = search rules; day_in = search rules }

days_from_civil-first : days_from_civil first_year 1 1 ≡ first_day_number
days_from_civil-first = omega (arith, signed_arith, days_from_civil-day_count (pos 1900) 1 1, day_count-early (pos 1900) 11899 1 1 refl (omega arith) (omega arith) (omega arith))

days_from_civil-after : days_from_civil (pos 9800) 1 1 ≡ pos 2_859_849
days_from_civil-after = omega (arith, signed_arith, days_from_civil-day_count (pos 9800) 1 1, day_count-early (pos 9800) 19799 1 1 refl (omega arith) (omega arith) (omega arith))

days_from_civil-before : days_from_civil (pos 1899) 12 31 ≡ neg_ℤ (pos 25_568)
days_from_civil-before = omega (arith, signed_arith, days_from_civil-first, days_from_civil-next_year (pos 1899) (pos 1900) (search rules) refl)

days_from_civil-last : days_from_civil last_year 12 31 ≡ last_day_number
days_from_civil-last = omega (arith, signed_arith, days_from_civil-after, days_from_civil-next_year (pos 9799) (pos 9800) (search rules) refl)

-- a day of the office has a number of its days
pub day_number : (d : Date) → IsDay d → IsDayNumber (epoch_day d)
unfolding day_before day_after
day_number d h = (
  omega (arith, signed_arith, days_from_civil-before, epoch_day-lt day_before d (inl (omega (arith, signed_arith, h.0)))),
  omega (arith, signed_arith, days_from_civil-after, epoch_day-lt d day_after (inl (omega (arith, signed_arith, h.1)))),
)

-- and a date with such a number is a day of the office
pub number_day : (d : Date) → IsDayNumber (epoch_day d) → IsDay d
number_day d h = (
  by_lt_z d.year first_year
      (λ lt. absurd (omega (arith, signed_arith, h.0, days_from_civil-first, epoch_day-lt d first_day (inl lt))))
      (λ ge. omega (arith, signed_arith, ge)),
  by_lt_z last_year d.year
      (λ lt. absurd (omega (arith, signed_arith, h.1, days_from_civil-last, epoch_day-lt last_day d (inl lt))))
      (λ ge. omega (arith, signed_arith, ge)),
)

-- the numbers of the first day and of the last
pub first_number : epoch_day first_day ≡ first_day_number
first_number = days_from_civil-first

pub last_number : epoch_day last_day ≡ last_day_number
last_number = days_from_civil-last

-- a number that two digits write is written by them
digits-number : (a b n : ℕ) → number_of a b ≡ Some n → (a ≡ 48 + n / 10) × (b ≡ 48 + n % 10)
unfolding number_of
digits-number a b n e = (grind (arith, rules, e), grind (arith, rules, e))

number-digits : (n : ℕ) → n < 100 → number_of (48 + n / 10) (48 + n % 10) ≡ Some n
unfolding number_of
number-digits n h = grind (arith, rules)

-- the text of four numbers
abbrev pub parts_text : ℕ × ℕ × ℕ × ℕ → List ℕ
parts_text p = digits p.0 ++ digits p.1 ++ 45 ∷ [] ++ digits p.2 ++ 45 ∷ [] ++ digits p.3

assembled : (a b c d x e f y g h k l m n : ℕ) → x ≡ 45 → y ≡ 45 → (a ≡ 48 + k / 10) × (b ≡ 48 + k % 10) → (c ≡ 48 + l / 10) × (d ≡ 48 + l % 10) → (e ≡ 48 + m / 10) × (f ≡ 48 + m % 10) → (g ≡ 48 + n / 10) × (h ≡ 48 + n % 10)
    → a ∷ b ∷ c ∷ d ∷ x ∷ e ∷ f ∷ y ∷ g ∷ h ∷ [] ≡ parts_text (k, l, m, n)
assembled a b c d x e f y g h k l m n p q s t u v = rw (p, q, s.0, s.1, t.0, t.1, u.0, u.1, v.0, v.1)

-- the parts of ten bytes are the numbers that each two digits make
pub parts_of_bytes : (a b c d x e f y g h : ℕ) (p : ℕ × ℕ × ℕ × ℕ) → day_parts (a ∷ b ∷ c ∷ d ∷ x ∷ e ∷ f ∷ y ∷ g ∷ h ∷ []) ≡ Some p
    → (((x == 45) && (y == 45)) ≡ true) × (number_of a b ≡ Some p.0) × (number_of c d ≡ Some p.1) × (number_of e f ≡ Some p.2) × (number_of g h ≡ Some p.3)
parts_of_bytes a b c d x e f y g h p is =
    let whole = some_if ((x == 45) && (y == 45)) _ p is in
    let century = some_and_then (number_of a b) _ p whole.1 in
    let year = some_and_then (number_of c d) _ p century.2 in
    let month = some_and_then (number_of e f) _ p year.2 in
    let day = some_and_then (number_of g h) _ p month.2 in
    let all : (century.0, year.0, month.0, day.0) ≡ p = same_Some _ _ day.2 in
    subst (λ (q : ℕ × ℕ × ℕ × ℕ). (((x == 45) && (y == 45)) ≡ true) × (number_of a b ≡ Some q.0) × (number_of c d ≡ Some q.1) × (number_of e f ≡ Some q.2) × (number_of g h ≡ Some q.3)) all
    (whole.0, century.1, year.1, month.1, day.1)

-- what is read is what the text writes
pub text_of_parts : (t : List ℕ) (p : ℕ × ℕ × ℕ × ℕ) → day_parts t ≡ Some p → t ≡ parts_text p
text_of_parts (a ∷ b ∷ c ∷ d ∷ x ∷ e ∷ f ∷ y ∷ g ∷ h ∷ []) p is =
    let are = parts_of_bytes a b c d x e f y g h p is in
    assembled a b c d x e f y g h p.0 p.1 p.2 p.3 (grind (arith, rules, are.0)) (grind (arith, rules, are.0))
    (digits-number a b p.0 are.1) (digits-number c d p.1 are.2) (digits-number e f p.2 are.3) (digits-number g h p.3 are.4)
text_of_parts _ p is = cc

pub year_pos : (y : ℤ) → first_year ≤ℤ y → y ≡ pos (unsigned_abs y)
year_pos (pos n) h = refl
year_pos (negsuc n) h = absurd (omega (arith, signed_arith, h))

-- a year has four digits at most
pub four_digits : (d : Date) → IsDay d → unsigned_abs d.year < 10000
four_digits d h = omega (arith, signed_arith, year_pos d.year h.0, h.1)

-- a day's text is read as its parts
pub parts_of-day : (d : Date) → IsDay d → day_parts (day_text d) ≡ Some (unsigned_abs d.year / 100, unsigned_abs d.year % 100, d.month, d.day)
parts_of-day d h =
    let y = unsigned_abs d.year in
    let long = days_in_month_bounds d.year d.month in
    let below = four_digits d h in
    rw (number-digits (y / 100) (omega (arith, below)), number-digits (y % 100) (omega arith), number-digits d.month (omega (arith, d.month_in)), number-digits d.day (omega (arith, d.day_in, long)))

-- and they are its year, month and day
pub parts_are : (d : Date) (p : ℕ × ℕ × ℕ × ℕ) → IsDay d → Some p ≡ day_parts (day_text d) → (d.year ≡ pos (p.0 * 100 + p.1)) × (d.month ≡ p.2) × (d.day ≡ p.3)
parts_are d p h e =
    let q = same_Some _ _ (e ∙ parts_of-day d h) in
    (omega (arith, signed_arith, year_pos d.year h.0, ap (λ x. x.0) q, ap (λ x. x.1) q), sym (ap (λ x. x.2) q), sym (ap (λ x. x.3) q))

-- a text has one day
pub day_text-injective : (a b : Date) → IsDay a → IsDay b → day_text a ≡ day_text b → a ≡ b
day_text-injective a b in_a in_b e =
    let of_a = parts_are a _ in_a (sym (parts_of-day a in_a)) in
    let of_b = parts_are b _ in_b (sym (parts_of-day a in_a) ∙ ap day_parts e) in
    same_date a b (of_a.0 ∙ sym of_b.0) (of_a.1 ∙ sym of_b.1) (of_a.2 ∙ sym of_b.2)

-- a date with those parts has that text
pub text_are : (d : Date) (p : ℕ × ℕ × ℕ × ℕ) → p.1 < 100 → (d.year ≡ pos (p.0 * 100 + p.1)) × (pos d.month ≡ pos p.2) × (pos d.day ≡ pos p.3) → parts_text p ≡ day_text d
text_are d p h is =
    let whole : unsigned_abs d.year ≡ p.0 * 100 + p.1 = ap unsigned_abs is.0 in
    let century : unsigned_abs d.year / 100 ≡ p.0 = omega (arith, whole, h) in
    let year : unsigned_abs d.year % 100 ≡ p.1 = omega (arith, whole, h) in
    let month : d.month ≡ p.2 = omega (arith, signed_arith, is.1) in
    let day : d.day ≡ p.3 = omega (arith, signed_arith, is.2) in
    rw (century, year, month, day)

-- a date is one of the calendar
pub date_is : (d : Date) (y : ℤ) (m n : ℕ) → d.year ≡ y → d.month ≡ m → d.day ≡ n → IsDate y (pos m) (pos n)
date_is d y m n year month day =
    rw (← year, ← month, ← day) (d.year_in, (omega (arith, signed_arith, d.month_in), omega (arith, signed_arith, d.month_in)), (omega (arith, signed_arith, d.day_in), omega (arith, signed_arith, d.day_in)))

-- a month has the day of a date, or it is 29 February
kept : (two rest leap other : Bool) (day : ℕ) → day ≤ (if two then (if leap then 29 else 28) else (if rest then 30 else 31))
    → (if two && not other && (day == 29) then 28 else day) ≤ (if two then (if other then 29 else 28) else (if rest then 30 else 31))
kept false rest leap other day h = h
kept true rest true true day h = h
kept true rest false true day h = omega (arith, h)
kept true rest true false day h = grind (arith, rules, h)
kept true rest false false day h = grind (arith, rules, h)

-- the day of the month that another year has
pub stored_day : (date : Date) (y : ℤ) → (1 ≤ (if is_missing y date.month date.day then 28 else date.day)) × ((if is_missing y date.month date.day then 28 else date.day) ≤ 31)
stored_day date y =
    let m = date.month in
    let long = days_in_month_bounds y m in
    let most = kept (m == 2) ((m == 4) || (m == 6) || (m == 9) || (m == 11)) (is_leap_year date.year) (is_leap_year y) date.day date.day_in.1 in
    (by_Bool (is_missing y m date.day) (λ missing. rw missing (omega arith)) (λ there. rw there date.day_in.0), omega (arith, most, long))

-- and it makes a date of that year
pub kept_is : (date : Date) (y : ℤ) → first_year ≤ℤ y → y ≤ℤ pos 9999 → IsDate y (pos date.month) (pos (if is_missing y date.month date.day then 28 else date.day))
kept_is date y low high =
    let m = date.month in
    let kept_in = stored_day date y in
    let most = kept (m == 2) ((m == 4) || (m == 6) || (m == 9) || (m == 11)) (is_leap_year date.year) (is_leap_year y) date.day date.day_in.1 in
    ((omega (arith, signed_arith, low), high), (omega (arith, signed_arith, date.month_in), omega (arith, signed_arith, date.month_in)), (omega (arith, signed_arith, kept_in), omega (arith, signed_arith, most)))
