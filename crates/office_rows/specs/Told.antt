-- Parts of the rows of deposits, as they are told.
use Rattle.std.specs.Prelude.{ℕ, ℤ, List, Option, map, filter}
use Rattle.office_rows.specs.Rows.{DepositRow, DueRow, Tables, of_class, beside, is_disposable}

-- the collection and the class of a deposit, and when it falls due
pub record DisposableRow : Type 0 where
  pub number : ℤ
  pub collection : List ℕ
  pub class : List ℕ
  -- the number of the day from which it may be destroyed
  pub due : Option ℤ

-- of a deposit's row beside its due row
abbrev pub disposable_row : DepositRow × DueRow → DisposableRow
disposable_row p = record { number = p.0.number; collection = p.0.collection; class = p.0.class; due = p.1.due }

-- when its records were closed
pub record ClosingRow : Type 0 where
  pub number : ℤ
  pub closed : ℤ

abbrev pub closing_of : DepositRow → ClosingRow
closing_of d = record { number = d.number; closed = d.closed }

-- the deposits that may be destroyed on that day, whatever the rules of the policy say
abbrev pub disposable_rows : ℤ → Tables → List DisposableRow
disposable_rows day t = map disposable_row (filter (is_disposable day) (beside t.deposits t.dues))

abbrev pub class_closings : List ℕ → Tables → List ClosingRow
class_closings class t = map closing_of (of_class class t)
