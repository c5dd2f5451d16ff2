-- The rows that queries on due days show, and the counts of holds that stay in range.
use Rattle.std.specs.Prelude.{◌≡◌, ℤ, ◌+ℤ◌, Bool, true, List, map, filter}
use Rattle.std.specs.List.{AllByRecursion}
use Rattle.sqlite.specs.Order.{Row}
use Rattle.sqlite.specs.Ops.{fits_i64}
use Rattle.sql_meaning.specs.Columns.{int_at, bytes_at, maybe_int_at}
use Rattle.office_rows.specs.Rows.{DepositRow, DueRow, Tables, beside}
use Rattle.office_rows.specs.Told.{DisposableRow, ClosingRow}
use Rattle.office_tables.specs.Deposits.{shown_deposit}

abbrev pub shown_due : Row → DueRow
shown_due shown = record { number = int_at shown 0; due = maybe_int_at shown 1; holds = int_at shown 2 }

abbrev pub shown_beside : Row → DepositRow × DueRow
shown_beside shown = (shown_deposit shown, record { number = int_at shown 0; due = maybe_int_at shown 9; holds = int_at shown 10 })

abbrev pub shown_disposable : Row → DisposableRow
shown_disposable row = record { number = int_at row 0; collection = bytes_at row 1; class = bytes_at row 2; due = maybe_int_at row 3 }

abbrev pub shown_closing : Row → ClosingRow
shown_closing row = record { number = int_at row 0; closed = int_at row 1 }

-- the due rows of the deposits that pass
abbrev pub dues_of : (DepositRow → Bool) → Tables → List DueRow
dues_of those t = map (λ p. p.1) (filter (λ p. those p.0) (beside t.deposits t.dues))

-- as many more still fit 64 bits, of each of these
abbrev pub FitMore : ℤ → List DueRow → Type 0
FitMore by = AllByRecursion (λ (d : DueRow). fits_i64 (d.holds +ℤ by) ≡ true)
