-- The tables of each version of an office that is known here, and the rows that a database with them shows. What an older version
-- lacks is there as the value that it means.
use Rattle.std.specs.Prelude.{◌≡◌, ℕ, ℤ, pos, negsuc, map, List, [], ◌∷◌, None}
use Rattle.std.specs.List.{AllByRecursion}
use Rattle.sqlite.specs.Order.{Row}
use Rattle.sqlite.specs.Effect.{Database}
use Rattle.sqlite.specs.Schema.{Schema}
use Rattle.sql_meaning.specs.Columns.{int_at, bytes_at, maybe_int_at, maybe_bytes_at}
use Rattle.sql_meaning.specs.Whole.{IsWhole}
use Rattle.office_rows.specs.Rows.{RuleRow, HoldRow, Tables}
use Rattle.office_contents.specs.Schema.{stage, office_schema, emptied_trees, office_tree, caller_tree, old_rule_tree, class_tree, collection_tree, deposit_tree, file_tree, old_hold_tree, hold_tree, rule_tree}
use Rattle.office_contents.specs.Stored.{office_in, caller_in, class_in, collection_in, deposit_in, due_in, file_in, rule_in, hold_in, contents_of}
use Rattle.office_contents.specs.declared.version.TableVersion.{TableVersion}
use Rattle.office_contents.specs.declared.version.TableVersion.TheVariants.{Third, Fourth, Fifth}

-- ---- the tables

abbrev pub schema_at : TableVersion → Schema
schema_at Third = stage 9 10
schema_at Fourth = stage 10 13
schema_at Fifth = office_schema

abbrev pub version_number : TableVersion → ℤ
version_number Third = pos 3
version_number Fourth = pos 4
version_number Fifth = pos 5

-- the version that an office has, once it was opened
abbrev pub Newest : TableVersion
Newest = Fifth

-- ---- a stored row of an older table, in the form of the newest

-- the days of a rule that has none: they bound nothing
abbrev pub first_day : ℤ
first_day = negsuc 25566

abbrev pub last_day : ℤ
last_day = pos 2859848

abbrev pub old_rule_in : Row → RuleRow
old_rule_in row = record (rule_in row) { first = first_day; last = last_day }

abbrev pub old_hold_in : Row → HoldRow
old_hold_in row = record {
  number = int_at row 0;
  deposit = maybe_int_at row 2;
  collection = maybe_bytes_at row 3;
  class = None;
  matter = bytes_at row 4;
  placed = int_at row 5;
  released = maybe_int_at row 6;
}

-- ---- the picture

abbrev pub rules_at : TableVersion → Database → List RuleRow
rules_at Third db = map old_rule_in (db.trees old_rule_tree)
rules_at Fourth db = map old_rule_in (db.trees old_rule_tree)
rules_at Fifth db = map rule_in (db.trees rule_tree)

abbrev pub holds_at : TableVersion → Database → List HoldRow
holds_at Third db = map old_hold_in (db.trees old_hold_tree)
holds_at Fourth db = map hold_in (db.trees hold_tree)
holds_at Fifth db = map hold_in (db.trees hold_tree)

-- versions differ in the rules and in the holds alone
abbrev pub tables_at : TableVersion → Database → Tables
tables_at version db = record {
  office = map office_in (db.trees office_tree);
  callers = map caller_in (db.trees caller_tree);
  rules = rules_at version db;
  classes = map class_in (db.trees class_tree);
  collections = map collection_in (db.trees collection_tree);
  deposits = map deposit_in (db.trees deposit_tree);
  dues = map due_in (db.trees deposit_tree);
  files = map (file_in (contents_of db)) (db.trees file_tree);
  holds = holds_at version db;
}

-- the tables that the version has no more, which stay empty
abbrev pub emptied_at : TableVersion → List ℕ
emptied_at Third = []
emptied_at Fourth = old_hold_tree ∷ []
emptied_at Fifth = emptied_trees

-- the database has the tables of this version, each of their rules holds, and what an older version had instead is
-- empty
pub record IsOfficeAt (version : TableVersion) (db : Database) : Type 0 where
  pub whole : IsWhole (schema_at version) db
  pub emptied : AllByRecursion (λ tree. db.trees tree ≡ []) (emptied_at version)

-- where the database is an office's, whichever its version, this is so of its rows
abbrev pub IfKnownOffice : Database → (Tables → Type 0) → Type 0
IfKnownOffice db is_so = (version : TableVersion) → IsOfficeAt version db → is_so (tables_at version db)
