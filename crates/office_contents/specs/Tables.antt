-- The picture that the database of an office gives: its rows as plain records.
use Rattle.std.specs.Prelude.{◌≡◌}
use Rattle.sqlite.specs.Order.{Row}
use Rattle.sqlite.specs.Effect.{Database}
use Rattle.sql_meaning.specs.Columns.{int_at}
use Rattle.office_rows.specs.Rows.{Limits, Tables}
pub use Rattle.office_contents.specs.Stored.{office_in, caller_in, rule_in, class_in, collection_in, deposit_in, due_in, content_in, file_in, hold_in, contents_of}
use Rattle.office_contents.specs.Versions.{IsOfficeAt, Newest, tables_at}

-- ---- the row that a query shows

abbrev pub shown_limits : Row → Limits
shown_limits row = record { max_deposits = int_at row 0; max_holds = int_at row 1 }

-- ---- the picture, by the newest version

abbrev pub tables_of : Database → Tables
tables_of = tables_at Newest

-- the database has the tables of an office, each of their rules holds, and the tables that hold nothing any more are empty
abbrev pub IsOffice : Database → Type 0
IsOffice = IsOfficeAt Newest

-- what a call leaves: an office with these rows
pub record Becomes (db : Database) (tables : Tables) : Type 0 where
  pub office : IsOffice db
  pub are : tables_of db ≡ tables
