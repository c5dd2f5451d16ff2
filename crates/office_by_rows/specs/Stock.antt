-- How much an office keeps, by its contents, which are beside its tables. None where a size is below 0, or where the sizes come to more than
-- a count of 64 bits tells.
use Rattle.std.specs.Prelude.{ℕ, ℤ, nat_le, List, map, length, sum, Option, Some}
use Rattle.office_core.specs.FirstOf.{◌>>=◌, answer_if}
use Rattle.office_rows.specs.Rows.{ContentRow}
use Rattle.office_history.specs.Stocks.{Stock}
use Rattle.office_by_rows.specs.Values.{all_told, count_of}

abbrev pub max_total : ℕ
max_total = 18_446_744_073_709_551_615

-- how many bytes these sizes are together
abbrev pub total_by : List ℤ → Option ℕ
total_by sizes = do
  parts ← all_told count_of sizes
  answer_if (nat_le (sum parts) max_total) (sum parts)

-- the stock that contents of these sizes are
abbrev pub stock_in : List ℤ → Option Stock
stock_in sizes = do
  bytes ← total_by sizes
  Some (record { contents = length sizes; bytes = bytes })

abbrev pub stock_by : List ContentRow → Option Stock
stock_by contents = stock_in (map (λ (c : ContentRow). c.size) contents)
