-- The day from which a deposit may be destroyed, by computing. The law `one_due` says that it is the one of `IsDue`.
use Rattle.std.specs.Prelude.{ℕ, pos, ◌+ℤ◌, Option, Some, None, if◌then◌else◌}
use Rattle.jiff.specs.Types.{Date}
use Rattle.office_core.specs.Days.{is_missing}
use Rattle.office_core.specs.DayReading.{date_of}
use Rattle.office_core.specs.declared.retention.Due.{Due}
use Rattle.office_core.specs.declared.retention.Due.TheVariants.{On, Never}

abbrev pub on_or_never : Option Date → Due
on_or_never None = Never
on_or_never (Some date) = On date

-- the same month and day that many years later, and 28 February for a 29 February that the year doesn't have
abbrev pub years_after : Date → ℕ → Option Date
years_after date years =
    let year = date.year +ℤ pos years in
    date_of year date.month (if is_missing year date.month date.day then 28 else date.day)

abbrev pub due_of : Date → Option ℕ → Due
due_of closing None = Never
due_of closing (Some years) = on_or_never (years_after closing years)
