-- The rows of an office as plain records, as they are stored and as queries show them.
use Rattle.std.specs.Prelude.{ℕ, ◌+◌, map, List}
use Rattle.sqlite.specs.Order.{Row}
use Rattle.sqlite.specs.Effect.{Database}
use Rattle.sql_meaning.specs.Columns.{int_at, bytes_at, maybe_int_at, maybe_bytes_at}
use Rattle.office_rows.specs.Rows.{OfficeRow, CallerRow, RuleRow, ClassRow, DepositRow, DueRow, FileRow, HoldRow, ContentRow, bytes_under}
use Rattle.office_contents.specs.Schema.{content_tree}

-- A stored row: its first value is the rowid, which is the key of a table whose key is a whole number.
-- There the column of the key, which comes next, is empty. So the other columns are one place later than in a row that a query
-- shows. That is `gap`: 1 in a stored row, 0 in a shown one.

abbrev pub office_in : Row → OfficeRow
office_in row = record { id = int_at row 0; version = int_at row 2; max_deposits = int_at row 3; max_holds = int_at row 4 }

abbrev pub caller_in : Row → CallerRow
caller_in row = record { name = bytes_at row 1; role = bytes_at row 2 }

abbrev pub rule_at : ℕ → Row → RuleRow
rule_at gap row = record {
  place = int_at row 0;
  effect = int_at row (1 + gap);
  role = bytes_at row (2 + gap);
  action = bytes_at row (3 + gap);
  collection = bytes_at row (4 + gap);
  class = bytes_at row (5 + gap);
  first = int_at row (6 + gap);
  last = int_at row (7 + gap);
}

abbrev pub rule_in : Row → RuleRow
rule_in row = rule_at 1 row

abbrev pub class_in : Row → ClassRow
class_in row = record { name = bytes_at row 1; years = int_at row 2 }

abbrev pub collection_in : Row → List ℕ
collection_in row = bytes_at row 1

abbrev pub deposit_at : ℕ → Row → DepositRow
deposit_at gap row = record {
  number = int_at row 0;
  accession = bytes_at row (1 + gap);
  collection = bytes_at row (2 + gap);
  class = bytes_at row (3 + gap);
  closed = int_at row (4 + gap);
  deposited = int_at row (5 + gap);
  files = int_at row (6 + gap);
  bytes = int_at row (7 + gap);
  gone = maybe_int_at row (8 + gap);
}

abbrev pub deposit_in : Row → DepositRow
deposit_in row = deposit_at 1 row

abbrev pub due_in : Row → DueRow
due_in stored = record { number = int_at stored 0; due = maybe_int_at stored 10; holds = int_at stored 11 }

abbrev pub content_in : Row → ContentRow
content_in row = record { id = int_at row 0; mark = bytes_at row 2; size = int_at row 3; bytes = bytes_at row 4 }

-- with its content fetched from these
abbrev pub file_in : List ContentRow → Row → FileRow
file_in contents row = record { deposit = int_at row 1; path = bytes_at row 2; content = bytes_under contents (int_at row 3) }

abbrev pub hold_at : ℕ → Row → HoldRow
hold_at gap row = record {
  number = int_at row 0;
  deposit = maybe_int_at row (1 + gap);
  collection = maybe_bytes_at row (2 + gap);
  class = maybe_bytes_at row (3 + gap);
  matter = bytes_at row (4 + gap);
  placed = int_at row (5 + gap);
  released = maybe_int_at row (6 + gap);
}

abbrev pub hold_in : Row → HoldRow
hold_in row = hold_at 1 row

-- the contents that are stored, ascending by number
abbrev pub contents_of : Database → List ContentRow
contents_of db = map content_in (db.trees content_tree)
