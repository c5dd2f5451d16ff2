-- The date of a number is the one that has it.
use Rattle.office_by_rows.proofs.Common.{◌≡◌, ℕ, ◌+◌, ◌<◌, ◌≤◌, ℤ, pos, negsuc, ◌≤ℤ◌, Bool, true, List, [], ◌∷◌, Option, Some, None, find, refl, sym, ap, subst, ◌∙◌, inl, inr, arith, if◌then◌else◌, option_map, IfSome, int_eq, Decides-int_eq, same_Some, Date, epoch_day, days_in_month, first_number, Due, dates_from, date_numbered, day_numbered, due_of_number, if_any, is_between}
use Rattle.std.specs.List.{filter_map, flat_map, cons_option, range_with_len}
use Rattle.std.proofs.lemmas.Int.{by_lt_z}
use Rattle.bag_text.proofs.ElementLemmas.{Has}
use Rattle.jiff_core.proofs.SignedLemmas.{signed_arith}
use Rattle.jiff_core.proofs.CalendarLemmas.{days_in_month_bounds}
use Rattle.jiff_core.proofs.DateLemmas.{epoch_day-lt}
use Rattle.office_core.proofs.DueLemmas.{date_of_parts}
use Rattle.office_core.proofs.OptionLemmas.{find_some, some_if, by_Bool, by_Option, option_map_some}
use Rattle.office_core.specs.Days.{IsDayNumber, first_day, first_day_number, first_year, last_day_number}
use Rattle.office_core.specs.DayReading.{date_of}
use Rattle.office_core.specs.Retention.{IsDueNumber, due_number, last_due_number}
use Rattle.office_core.specs.declared.retention.Due.TheVariants.{On, Never}
use Rattle.office_history.proofs.MemberLemmas.{has_gathered, range_has}
use Rattle.office_history.proofs.Pictured.{same_day}
use Rattle.office_by_rows.proofs.ComesTo.{between}

-- what is told of one of these is among what is told of them
has_told : {A B : Type 0} (tell : A → Option B) (xs : List A) (x : A) (y : B) → Has xs x → tell x ≡ Some y → Has (filter_map tell xs) y
has_told tell [] x y has is = absurd has
has_told tell (z ∷ xs) x y (inl same) is = subst (λ o. Has (cons_option o (filter_map tell xs)) y) (sym (ap tell same ∙ is)) (inl refl)
has_told tell (z ∷ xs) x y (inr rest) is = by_Option (tell z) (λ none. rw none (has_told tell xs x y rest is)) (λ w told. rw told (inr (has_told tell xs x y rest is)))

-- a date of these years is one of theirs
date_has : (first count : ℕ) (date : Date) (year : ℕ) → date.year ≡ pos year → first ≤ year → year < first + count → Has (dates_from first count) date
unfolding dates_from
date_has first count date year is low high =
    let month_low : 1 ≤ date.month = date.month_in.0 in
    let month_high : date.month ≤ 12 = date.month_in.1 in
    let day_low : 1 ≤ date.day = date.day_in.0 in
    let day_high : date.day ≤ days_in_month date.year date.month = date.day_in.1 in
    let most = (days_in_month_bounds date.year date.month).0 in
    has_gathered (λ y. flat_map (λ month. filter_map (date_of (pos y) month) (range_with_len 1 31)) (range_with_len 1 12)) year date (range_with_len first count) (range_has first count year low high)
    (has_gathered (λ month. filter_map (date_of (pos year) month) (range_with_len 1 31)) date.month date (range_with_len 1 12) (range_has 1 12 date.month month_low (omega (arith, month_high)))
    (has_told (date_of (pos year) date.month) (range_with_len 1 31) date.day date (range_has 1 31 date.day day_low (omega (arith, day_high, most))) (ap (λ y. date_of y date.month date.day) (sym is) ∙ date_of_parts date)))

-- the one that passes is found
found_only : {A : Type 0} (p : A → Bool) (xs : List A) (x : A) → Has xs x → p x ≡ true → ((y : A) → p y ≡ true → y ≡ x) → find p xs ≡ Some x
found_only p [] x has passes only = absurd has
found_only p (y ∷ xs) x (inl same) passes only = rw (ap p same ∙ passes) (ap Some same)
found_only p (y ∷ xs) x (inr rest) passes only = by_Bool (p y) (λ hit. rw hit (ap Some (only y hit))) (λ miss. rw miss (found_only p xs x rest passes only))

-- a date from 1900 on is that of its number
pub date_back : (number : ℤ) (date : Date) → epoch_day date ≡ number → first_year ≤ℤ date.year → date_numbered number ≡ Some date
date_back number date is low = by date.year refl
  where
    by : (y : ℤ) → date.year ≡ y → date_numbered number ≡ Some date
    by (negsuc n) e = absurd (omega (arith, signed_arith, low, e))
    by (pos year) e =
        found_only (λ d. int_eq (epoch_day d) number) (dates_from 1_900 8_100) date
        (date_has 1_900 8_100 date year e (omega (arith, signed_arith, low, e)) (omega (arith, signed_arith, date.year_in.1, e)))
        ((Decides-int_eq (epoch_day date) number).1 is)
        (λ other same. same_day other date ((Decides-int_eq (epoch_day other) number).0 same ∙ sym is))

pub date_is : (number : ℤ) (date : Date) → date_numbered number ≡ Some date → epoch_day date ≡ number
date_is number date e = (Decides-int_eq (epoch_day date) number).0 (find_some (λ d. int_eq (epoch_day d) number) (dates_from 1_900 8_100) date e)

-- no date before 1900 has a number from the first on
from_first : (d : Date) → first_day_number ≤ℤ epoch_day d → first_year ≤ℤ d.year
from_first d low =
    by_lt_z d.year first_year
    (λ lt. absurd (omega (arith, signed_arith, low, first_number, epoch_day-lt d first_day (inl lt))))
    (λ ge. omega (arith, signed_arith, ge))

-- ---- days of the office

pub day_back : (number : ℤ) (day : Date) → epoch_day day ≡ number → IsDayNumber number → day_numbered number ≡ Some day
day_back number day is ranged =
    ap (λ b. if b then date_numbered number else None) (between first_day_number last_day_number number ranged.0 ranged.1)
    ∙ date_back number day is (from_first day (subst (λ n. first_day_number ≤ℤ n) (sym is) ranged.0))

pub day_is : (number : ℤ) (day : Date) → day_numbered number ≡ Some day → epoch_day day ≡ number
day_is number day e = date_is number day (some_if (is_between first_day_number last_day_number number) (date_numbered number) day e).1

pub days_back : (number : Option ℤ) (day : Option Date) → option_map epoch_day day ≡ number → IfSome number IsDayNumber → if_any day_numbered number ≡ Some day
days_back None None is ranged = refl
days_back (Some number) (Some day) is ranged = ap (option_map Some) (day_back number day (same_Some _ _ is) ranged)
days_back _ _ is ranged = absurd cc

pub days_are : (number : Option ℤ) (day : Option Date) → if_any day_numbered number ≡ Some day → option_map epoch_day day ≡ number
days_are None day e = ap (option_map epoch_day) (sym (same_Some _ _ e))
days_are (Some number) day e = option_map_some Some (day_numbered number) day e (λ date is same. ap (option_map epoch_day) (sym same) ∙ ap Some (day_is number date is))

-- ---- due days

pub due_back : (number : Option ℤ) (due : Due) → due_number due ≡ number → IfSome number IsDueNumber → due_of_number number ≡ Some due
due_back None Never is ranged = refl
due_back (Some number) (On day) is ranged =
    let same = same_Some _ _ is in
    ap (λ b. if b then option_map On (date_numbered number) else None) (between first_day_number last_due_number number ranged.0 ranged.1)
    ∙ ap (option_map On) (date_back number day same (from_first day (subst (λ n. first_day_number ≤ℤ n) (sym same) ranged.0)))
due_back _ _ is ranged = absurd cc

pub due_is : (number : Option ℤ) (due : Due) → due_of_number number ≡ Some due → due_number due ≡ number
due_is None due e = ap due_number (sym (same_Some _ _ e))
due_is (Some number) due e =
    option_map_some On (date_numbered number) due (some_if (is_between first_day_number last_due_number number) (option_map On (date_numbered number)) due e).1
    (λ date is same. ap due_number (sym same) ∙ ap Some (date_is number date is))
