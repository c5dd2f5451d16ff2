-- The columns of a row, as the number or the bytes that they have.
use Rattle.std.specs.Prelude.{ℕ, ℤ, List, Option, Some, None}
use Rattle.sqlite.specs.declared.types.Value.{Value}
use Rattle.sqlite.specs.declared.types.Value.TheVariants.{Int, Text}
use Rattle.sqlite.specs.Order.{Row, column, bytes}
use Rattle.sqlite.specs.Edit.{id_in}

abbrev pub int_at : Row → ℕ → ℤ
int_at row at = id_in (column row at)

abbrev pub bytes_at : Row → ℕ → List ℕ
bytes_at row at = bytes (column row at)

-- of a column that may be NULL
abbrev pub maybe_int : Value → Option ℤ
maybe_int (Int n) = Some n
maybe_int _ = None

abbrev pub maybe_bytes : Value → Option (List ℕ)
maybe_bytes (Text t) = Some t
maybe_bytes _ = None

abbrev pub maybe_int_at : Row → ℕ → Option ℤ
maybe_int_at row at = maybe_int (column row at)

abbrev pub maybe_bytes_at : Row → ℕ → Option (List ℕ)
maybe_bytes_at row at = maybe_bytes (column row at)
