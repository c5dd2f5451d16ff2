-- The day that is computed of a text is the one that the text writes.
use Rattle.office_core.proofs.Common.{◌≡◌, ◌∙◌, ℕ, ℤ, pos, neg_ℤ, ◌+◌, ◌*◌, ◌/◌, ◌%◌, ◌<◌, ◌≤ℤ◌, Bool, true, false, T, leb, ◌&&◌, List, [], ◌∷◌, Option, Some, None, IfSome, int_le, unsigned_abs, refl, sym, ap, subst, arith, rules, and_parts, same_Some, int_le as le_z, signed_arith, Date, days_in_month, ◌>>=◌, first_year, last_year, IsDay, day_text, number_of, day_parts, where_so, date_of, day_of_date, day_of}
use Rattle.office_core.proofs.OptionLemmas.{some_if, some_and_then, by_Option}
use Rattle.office_core.proofs.DayLemmas.{year_pos, parts_of_bytes, parts_of-day, text_of_parts, text_are}
use Rattle.office_core.proofs.DueLemmas.{date_of_parts}

-- ---- a day's text gives the day

day_of_day : (day : Date) → IsDay day → day_of_date day ≡ Some day
day_of_day day is =
    let low : int_le first_year day.year ≡ true = search (rules, is.0) in
    let high : int_le day.year last_year ≡ true = search (rules, is.1) in
    rw (low, high) refl

date_of-day : (day : Date) → IsDay day → date_of (pos (unsigned_abs day.year / 100 * 100 + unsigned_abs day.year % 100)) day.month day.day ≡ Some day
date_of-day day is =
    let year : pos (unsigned_abs day.year / 100 * 100 + unsigned_abs day.year % 100) ≡ day.year = omega (arith, signed_arith, year_pos day.year is.0) in
    ap (λ y. date_of y day.month day.day) year ∙ date_of_parts day

pub day_of-text : (day : Date) → IsDay day → day_of (day_text day) ≡ Some day
day_of-text day is =
    ap (λ parts. parts >>= λ p. date_of (pos (p.0 * 100 + p.1)) p.2 p.3 >>= day_of_date) (parts_of-day day is)
    ∙ ap (λ date. date >>= day_of_date) (date_of-day day is)
    ∙ day_of_day day is

-- ---- and a text that gives a day is that day's text

where_so_given : {A : Type 0} (test : Bool) (rest : T test → Option A) (x : A) → where_so test rest ≡ Some x → (t : T test) × (rest t ≡ Some x)
where_so_given true rest x e = (tt, e)
where_so_given false rest x e = cc

-- the date has the parts that it was made of
parts_of_date : (y : ℤ) (m d : ℕ) (date : Date) → date_of y m d ≡ Some date → (date.year ≡ y) × (date.month ≡ m) × (date.day ≡ d)
parts_of_date y m d date e =
    let y_low = where_so_given (le_z (neg_ℤ (pos 9999)) y) _ date e in
    let y_high = where_so_given (le_z y (pos 9999)) _ date y_low.1 in
    let m_low = where_so_given (leb 1 m) _ date y_high.1 in
    let m_high = where_so_given (leb m 12) _ date m_low.1 in
    let d_low = where_so_given (leb 1 d) _ date m_high.1 in
    let d_high = where_so_given (leb d (days_in_month y m)) _ date d_low.1 in
    let same = same_Some _ _ d_high.1 in
    (ap (λ x. x.year) (sym same), ap (λ x. x.month) (sym same), ap (λ x. x.day) (sym same))

number_below : (a b n : ℕ) → number_of a b ≡ Some n → n < 100
unfolding number_of
number_below a b n e = grind (arith, rules, e)

parts_below : (t : List ℕ) (p : ℕ × ℕ × ℕ × ℕ) → day_parts t ≡ Some p → p.1 < 100
parts_below (a ∷ b ∷ c ∷ d ∷ x ∷ e ∷ f ∷ y ∷ g ∷ h ∷ []) p is = number_below c d p.1 (parts_of_bytes a b c d x e f y g h p is).2
parts_below _ p is = cc

day_in_office : (date day : Date) → day_of_date date ≡ Some day → IsDay date × (date ≡ day)
day_in_office date day e =
    let (test, same) = some_if (int_le first_year date.year && int_le date.year last_year) (Some date) day e in
    let both = and_parts (int_le first_year date.year) (int_le date.year last_year) test in
    let low : first_year ≤ℤ date.year = search (rules, both.0) in
    let high : date.year ≤ℤ last_year = search (rules, both.1) in
    ((low, high), same_Some _ _ same)

pub written_day : (text : List ℕ) (day : Date) → day_of text ≡ Some day → IsDay day × (text ≡ day_text day)
written_day text day e =
    let (p, of_text, made) = some_and_then (day_parts text) _ day e in
    let (date, of_parts, ends) = some_and_then (date_of (pos (p.0 * 100 + p.1)) p.2 p.3) day_of_date day made in
    let (is, same) = day_in_office date day ends in
    let are = parts_of_date (pos (p.0 * 100 + p.1)) p.2 p.3 date of_parts in
    let written = text_of_parts text p of_text ∙ text_are date p (parts_below text p of_text) (are.0, ap pos are.1, ap pos are.2) in
    (subst IsDay same is, written ∙ ap day_text same)

-- what a reader of days gives of each text is what is computed
pub read_exactly : (text : List ℕ) (read : Option Date) → IfSome read (λ day. IsDay day × (text ≡ day_text day)) → ((day : Date) → IsDay day → text ≡ day_text day → read ≡ Some day) → read ≡ day_of text
read_exactly text (Some day) written only = sym (ap day_of written.1 ∙ day_of-text day written.0)
read_exactly text None written only = by_Option (day_of text) sym (λ day is. let both = written_day text day is in only day both.0 both.1 ∙ sym is)
