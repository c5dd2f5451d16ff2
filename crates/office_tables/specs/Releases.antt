-- When the holds over a deposit were released.
use Rattle.std.specs.Prelude.{ℕ, ℤ, List, Bool, false, ◌&&◌, ◌||◌, Option, Some, None}
use Rattle.std.specs.Ordering.{int_cmp, is_gt, is_lt}
use Rattle.office_rows.specs.Rows.{HoldRow, holds_collection, holds_class, holds_deposit}

-- there is a day of release, and it lies before the first or after the last of these days
abbrev pub is_outside : ℤ → ℤ → Option ℤ → Bool
is_outside first last None = false
is_outside first last (Some day) = is_lt (int_cmp day first) || is_gt (int_cmp day last)

-- the hold is one of those, and its day of release lies outside of these days
abbrev pub is_outside_of : (HoldRow → Bool) → ℤ → ℤ → HoldRow → Bool
is_outside_of those first last h = those h && is_outside first last h.released

-- the hold is on the deposit, on the collection or on the class
abbrev pub is_over : ℤ → List ℕ → List ℕ → HoldRow → Bool
is_over n collection class h = holds_deposit n h || (holds_collection collection h || holds_class class h)
