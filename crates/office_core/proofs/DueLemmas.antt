-- The due day that is computed is the one of the definition.
use Rattle.office_core.proofs.Common.{◌≡◌, ℕ, pos, neg_ℤ, Bool, true, false, T, leb, Option, Some, None, refl, sym, ap, subst, ◌∙◌, ◌+ℤ◌, ◌≤ℤ◌, ◌≤◌, arith, if◌then◌else◌, int_le as le_z, Date, days_in_month, signed_arith, max_years, first_year, IsDay, IsYearsAfter, is_missing, where_so, date_of, Due, On, Never}
use Rattle.jiff.proofs.Family.{same_date}
use Rattle.office_core.specs.Requests.{IsYears}
use Rattle.office_core.proofs.DayLemmas.{kept_is}
use Rattle.office_core.specs.Retention.{IsDue}
use Rattle.office_core.specs.RetentionReading.{on_or_never, years_after, due_of}
use Rattle.std.proofs.Math.Dec.{le→leb}

where_so_gives : {A : Type 0} (test : Bool) (t : T test) (rest : T test → Option A) (x : A) → rest t ≡ Some x → where_so test rest ≡ Some x
where_so_gives true tt rest x e = e
where_so_gives false t rest x e = absurd t

-- a date has its parts
pub date_of_parts : (date : Date) → date_of date.year date.month date.day ≡ Some date
date_of_parts date =
    where_so_gives (le_z (neg_ℤ (pos 9999)) date.year) date.year_in.0.le _ date (where_so_gives (le_z date.year (pos 9999)) date.year_in.1.le _ date
    (where_so_gives (leb 1 date.month) (le→leb 1 date.month date.month_in.0) _ date (where_so_gives (leb date.month 12) (le→leb date.month 12 date.month_in.1) _ date
    (where_so_gives (leb 1 date.day) (le→leb 1 date.day date.day_in.0) _ date (where_so_gives (leb date.day (days_in_month date.year date.month)) (le→leb date.day _ date.day_in.1) _ date
    (ap Some (same_date _ date refl)))))))

years_after_is : (closing date : Date) (years : ℕ) → IsYearsAfter closing years date → years_after closing years ≡ Some date
years_after_is closing date years h =
    ap (λ y. date_of y closing.month (if is_missing y closing.month closing.day then 28 else closing.day)) (sym h.year)
    ∙ ap (λ m. date_of date.year m (if is_missing date.year closing.month closing.day then 28 else closing.day)) (sym h.month)
    ∙ ap (date_of date.year date.month) (sym h.day)
    ∙ date_of_parts date

pub due_of_is : (closing : Date) (years : Option ℕ) (due : Due) → IsDue closing years due → due_of closing years ≡ due
due_of_is closing (Some years) (On date) h = ap on_or_never (years_after_is closing date years h)
due_of_is closing None Never h = refl
due_of_is closing _ _ h = absurd h

-- the date that many years after a day of the office
date_after : (closing : Date) (years : ℕ) → IsDay closing → years ≤ max_years → (date : Date) × IsYearsAfter closing years date
date_after closing years is few =
    let year = closing.year +ℤ pos years in
    let day = if is_missing year closing.month closing.day then 28 else closing.day in
    let low : first_year ≤ℤ year = omega (arith, signed_arith, is.0) in
    let high : year ≤ℤ pos 9999 = omega (arith, signed_arith, is.1, few) in
    let (in_year, in_month, in_day) = kept_is closing year low high in
    let date : Date = record {
      year = year;
      month = closing.month;
      day = day;
      year_in = in_year;
      month_in = closing.month_in;
      day_in = (omega (arith, signed_arith, in_day.0), omega (arith, signed_arith, in_day.1));
    } in
    (date, record { year = refl; month = refl; day = refl })

-- what is computed of a day is the due day
pub is_due_of : (closing : Date) (years : Option ℕ) → IsDay closing → IsYears years → IsDue closing years (due_of closing years)
is_due_of closing None is few = tt
is_due_of closing (Some years) is few =
    let (date, after) = date_after closing years is few in
    subst (IsDue closing (Some years)) (sym (due_of_is closing (Some years) (On date) after)) after
