-- The row that a query on holds shows, and what a hold is on.
use Rattle.std.specs.Prelude.{ℕ, ℤ, pos, List, Option, Some, None, Bool}
use Rattle.sqlite.specs.Order.{Row}
use Rattle.office_rows.specs.Rows.{HoldRow, holds_class, holds_collection, holds_deposit}
use Rattle.office_contents.specs.Stored.{hold_at}
use Rattle.office_tables.specs.declared.holds.HoldTarget.{HoldTarget}
use Rattle.office_tables.specs.declared.holds.HoldTarget.TheVariants.{Deposit, Collection, Class}

abbrev pub shown_hold : Row → HoldRow
shown_hold row = hold_at 0 row

abbrev pub held_deposit : HoldTarget → Option ℤ
held_deposit (Deposit number) = Some (pos number)
held_deposit (Collection name) = None
held_deposit (Class name) = None

abbrev pub held_collection : HoldTarget → Option (List ℕ)
held_collection (Deposit number) = None
held_collection (Collection name) = Some name.now
held_collection (Class name) = None

abbrev pub held_class : HoldTarget → Option (List ℕ)
held_class (Deposit number) = None
held_class (Collection name) = None
held_class (Class name) = Some name.now

-- the row of a hold on that which is placed, and so not released
abbrev pub placed_row : HoldTarget → ℤ → List ℕ → ℤ → HoldRow
placed_row target number matter day = record {
  number = number;
  deposit = held_deposit target;
  collection = held_collection target;
  class = held_class target;
  matter = matter;
  placed = day;
  released = None;
}

-- the row of a hold names this
abbrev pub is_on : HoldTarget → HoldRow → Bool
is_on (Deposit number) = holds_deposit (pos number)
is_on (Collection name) = holds_collection name.now
is_on (Class name) = holds_class name.now
