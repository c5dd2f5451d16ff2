-- Days of the civil calendar, by jiff's dates: `year`, `month` and `day`, and the day number `epoch_day`.
use Rattle.std.specs.Prelude.{◌≡◌, ℕ, ◌+◌, ◌/◌, ◌%◌, List, [], ◌∷◌, ◌++◌, unsigned_abs, ℤ, pos, neg_ℤ, ◌+ℤ◌, ◌==◌, ◌&&◌, not, Bool, if◌then◌else◌}
use Rattle.std.specs.Int.Signed.{le_z_yes}
use Rattle.jiff.specs.Types.{Date}
use Rattle.jiff.specs.Words.{IsBetween, is_leap_year}
use Rattle.std.proofs.Math.Dec.{leb→le}

-- the first and the last year of the office
abbrev pub first_year : ℤ
first_year = pos 1900

abbrev pub last_year : ℤ
last_year = pos 9799

-- the numbers of its first day and of its last, where 1 January 1970 has the number 0
abbrev pub first_day_number : ℤ
first_day_number = neg_ℤ (pos 25_567)

abbrev pub last_day_number : ℤ
last_day_number = pos 2_859_848

-- its first day, 1900-01-01, and its last, 9799-12-31
abbrev pub first_day : Date
first_day = record {
  year = first_year;
  month = 1;
  day = 1;
  year_in = (le_z_yes tt, le_z_yes tt);
  month_in = (leb→le 1 1 tt, leb→le 1 12 tt);
  day_in = (leb→le 1 1 tt, leb→le 1 31 tt);
}

abbrev pub last_day : Date
last_day = record {
  year = last_year;
  month = 12;
  day = 31;
  year_in = (le_z_yes tt, le_z_yes tt);
  month_in = (leb→le 1 12 tt, leb→le 12 12 tt);
  day_in = (leb→le 1 31 tt, leb→le 31 31 tt);
}

-- a day of the office lies in its years
abbrev pub IsDay : Date → Type 0
IsDay date = IsBetween first_year last_year date.year

-- the numbers of the days of the office
abbrev pub IsDayNumber : ℤ → Type 0
IsDayNumber number = IsBetween first_day_number last_day_number number

-- a number below 100, in two digits
abbrev pub digits : ℕ → List ℕ
digits n = (48 + n / 10) ∷ (48 + n % 10) ∷ []

-- how a day is written: four digits of the year, two of the month and two of the day, as `2024-02-29`
abbrev pub day_text : Date → List ℕ
day_text date = digits (unsigned_abs date.year / 100) ++ digits (unsigned_abs date.year % 100) ++ 45 ∷ [] ++ digits date.month ++ 45 ∷ [] ++ digits date.day

-- 29 February comes in leap years alone
abbrev pub is_missing : ℤ → ℕ → ℕ → Bool
is_missing year month day = (month == 2) && not (is_leap_year year) && (day == 29)

-- that many years after a date: the same month and day, and 28 February for a 29 February that the year doesn't have
pub record IsYearsAfter (date : Date) (years : ℕ) (due : Date) : Type 0 where
  pub year : due.year ≡ date.year +ℤ pos years
  pub month : due.month ≡ date.month
  pub day : due.day ≡ (if is_missing due.year date.month date.day then 28 else date.day)
