-- The rows that the queries on deposits show, and what a deposit that was added tells.
use Rattle.std.specs.Prelude.{ℤ, pos, Option, None, IsTrue, ◌≡◌}
use Rattle.sqlite.specs.Order.{Row}
use Rattle.sqlite.specs.Effect.{Database}
use Rattle.office_rows.specs.Rows.{DepositRow, with_deposit_and_due, deposit_numbered, deposit_by, has_collection, has_class}
pub use Rattle.office_contents.specs.Files.{shown_path, path_cmp, files_by_path}
use Rattle.office_contents.specs.Stored.{deposit_at}
use Rattle.office_contents.specs.Tables.{Becomes, tables_of}
use Rattle.office_tables.specs.declared.deposits.NewDeposit.{NewDeposit}

abbrev pub shown_deposit : Row → DepositRow
shown_deposit row = deposit_at 0 row

-- the row of a deposit that is added, which isn't destroyed
abbrev pub added_row : NewDeposit → DepositRow
added_row d = record {
  number = pos d.number;
  accession = d.accession.now;
  collection = d.collection.now;
  class = d.class.now;
  closed = d.closed;
  deposited = d.deposited;
  files = d.files;
  bytes = d.bytes;
  gone = None;
}

-- a deposit came to the rows of an office, with its day and its count of holds: its number and its accession were new, and its
-- collection and its class were there
pub record IsAdded (d : DepositRow) (due : Option ℤ) (holds : ℤ) (old new : Database) : Type 0 where
  pub becomes : Becomes new (with_deposit_and_due d due holds (tables_of old))
  pub new_number : deposit_numbered d.number (tables_of old).deposits ≡ None
  pub new_accession : deposit_by d.accession (tables_of old).deposits ≡ None
  pub its_collection : IsTrue (has_collection d.collection (tables_of old))
  pub its_class : IsTrue (has_class d.class (tables_of old))
