-- The day from which a deposit may be destroyed.
use Rattle.std.specs.Prelude.{ℕ, ℤ, pos, Option, Some, None}
use Rattle.jiff.specs.Types.{Date}
use Rattle.jiff.specs.Words.{epoch_day, IsBetween}
use Rattle.office_core.specs.Days.{IsYearsAfter, first_day_number}
use Rattle.office_core.specs.declared.retention.Due.{Due}
use Rattle.office_core.specs.declared.retention.Due.TheVariants.{On, Never}

-- The closing day and that many years, or never where the class keeps its deposits permanently.
abbrev pub IsDue : Date → Option ℕ → Due → Type 0
IsDue closing (Some years) (On date) = IsYearsAfter closing years date
IsDue closing (Some years) Never = ⊥
IsDue closing None (On date) = ⊥
IsDue closing None Never = Unit {0}

-- the number of the day, where there is one
abbrev pub due_number : Due → Option ℤ
due_number Never = None
due_number (On day) = Some (epoch_day day)

-- the number of 9999-12-31, the last day that 200 years after a day of the office may be
abbrev pub last_due_number : ℤ
last_due_number = pos 2_932_896

-- the numbers of the days from which a deposit may be destroyed
abbrev pub IsDueNumber : ℤ → Type 0
IsDueNumber number = IsBetween first_day_number last_due_number number
