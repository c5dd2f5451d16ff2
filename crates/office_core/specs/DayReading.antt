-- What reading a day gives, step by step.
use Rattle.std.specs.Prelude.{ℕ, ℤ, pos, neg_ℤ, ◌+◌, ◌-◌, ◌*◌, Bool, true, false, T, leb, ◌&&◌, List, [], ◌∷◌, Option, Some, None, ◌==◌, int_le, if◌then◌else◌}
use Rattle.std.specs.Char.{is_ascii_digit}
use Rattle.std.specs.Int.Signed.{le_z, le_z_yes}
use Rattle.jiff.specs.Types.{Date}
use Rattle.jiff.specs.Words.{days_in_month}
use Rattle.office_core.specs.Days.{first_year, last_year}
use Rattle.office_core.specs.FirstOf.{◌>>=◌, answer_if}
use Rattle.std.proofs.Math.Dec.{leb→le}

-- the number that two digits write
unfoldable pub number_of : ℕ → ℕ → Option ℕ
number_of tens ones = if is_ascii_digit tens && is_ascii_digit ones then Some ((tens - 48) * 10 + (ones - 48)) else None

-- the century, the year in it, the month and the day
abbrev pub day_parts : List ℕ → Option (ℕ × ℕ × ℕ × ℕ)
day_parts (a ∷ b ∷ c ∷ d ∷ p ∷ e ∷ f ∷ q ∷ g ∷ h ∷ []) =
    if (p == 45) && (q == 45) then (do
      century ← number_of a b
      year ← number_of c d
      month ← number_of e f
      day ← number_of g h
      Some (century, year, month, day)) else None
day_parts _ = None

-- what follows from the test where it passes, else none
abbrev pub where_so : {A : Type 0} (test : Bool) → (T test → Option A) → Option A
where_so true rest = rest tt
where_so false rest = None

-- the date of the calendar with these parts, where it has one
abbrev pub date_of : ℤ → ℕ → ℕ → Option Date
date_of y m d =
    where_so (le_z (neg_ℤ (pos 9999)) y) (λ y_low. where_so (le_z y (pos 9999)) (λ y_high.
    where_so (leb 1 m) (λ m_low. where_so (leb m 12) (λ m_high.
    where_so (leb 1 d) (λ d_low. where_so (leb d (days_in_month y m)) (λ d_high.
    Some (record {
      year = y;
      month = m;
      day = d;
      year_in = (le_z_yes y_low, le_z_yes y_high);
      month_in = (leb→le 1 m m_low, leb→le m 12 m_high);
      day_in = (leb→le 1 d d_low, leb→le d (days_in_month y m) d_high);
    })))))))

-- the date, where it lies in the years of the office
abbrev pub day_of_date : Date → Option Date
day_of_date date = answer_if (int_le first_year date.year && int_le date.year last_year) date

-- the day that a text writes
abbrev pub day_of : List ℕ → Option Date
day_of text = do
  (century, year, month, day) ← day_parts text
  date ← date_of (pos (century * 100 + year)) month day
  day_of_date date
