-- What a call makes of an office whose tables are of an older version. `old` is the connection before it and `new` the
-- connection after it.
use Rattle.std.specs.Prelude.{◌≡◌, ℕ, ℤ, List, [], ◌∷◌, map, Ok, if◌then◌else◌}
use Rattle.sqlite.specs.declared.types.Value.TheVariants.{Null, Int}
use Rattle.sqlite.specs.Order.{Row, column}
use Rattle.sqlite.specs.Tree.{rowid}
use Rattle.sqlite.specs.Schema.{Schema}
use Rattle.sqlite.specs.Effect.{Database}
use Rattle.sqlite.specs.Store.{Ghosts}
use Rattle.sqlite.specs.State.{Executes}
use Rattle.sqlite.specs.Held.{Held, state}
use Rattle.sql_meaning.specs.Making.{Builds}
use Rattle.sql_meaning.specs.Growing.{Grows}
use Rattle.sql_meaning.specs.Whole.{IsWhole}
use Rattle.office_rows.specs.Rows.{OfficeRow, ContentRow, Tables, is_office_row, this_version}
use Rattle.office_contents.specs.Stored.{contents_of}
use Rattle.office_contents.specs.Contents.{references_of}
use Rattle.office_contents.specs.Versions.{IsOfficeAt, tables_at, first_day, last_day}
use Rattle.office_contents.specs.declared.version.TableVersion.{TableVersion}
use Rattle.office_contents.specs.declared.version.TableVersion.TheVariants.{Third, Fourth, Fifth}

-- the rows of the tables, the contents that are stored, and the number of the content of each file
pub record AllRows : Type 0 where
  pub tables : Tables
  pub contents : List ContentRow
  pub references : List ℤ

-- the same rows, of an office whose tables are of that version
abbrev pub in_version : ℤ → OfficeRow → OfficeRow
in_version version o = if is_office_row o then record o { version = version } else o

abbrev pub with_version : ℤ → Tables → Tables
with_version version t = record t { office = map (in_version version) t.office }

abbrev pub all_in_version : ℤ → AllRows → AllRows
all_in_version version rows = record rows { tables = with_version version rows.tables }

abbrev pub rows_at : TableVersion → Database → AllRows
rows_at version db = record { tables = tables_at version db; contents = contents_of db; references = references_of db }

pub record BecomesAt (version : TableVersion) (db : Database) (rows : AllRows) : Type 0 where
  pub office : IsOfficeAt version db
  pub are : rows_at version db ≡ rows

-- ---- a stored row of an older table, as it is taken over

abbrev pub moved_hold : Row → Row
moved_hold r = rowid r ∷ Null ∷ column r 2 ∷ column r 3 ∷ Null ∷ column r 4 ∷ column r 5 ∷ column r 6 ∷ []

abbrev pub moved_rule : Row → Row
moved_rule r = rowid r ∷ Null ∷ column r 2 ∷ column r 3 ∷ column r 4 ∷ column r 5 ∷ column r 6 ∷ Int first_day ∷ Int last_day ∷ []

-- the texts that take the rows of an older table over: they make the newer one, copy the rows, and empty the older one
pub record Takeover : Type 0 where
  pub tables : List (List ℕ)
  pub copying : List ℕ
  pub emptying : List ℕ

-- the three steps in turn, each from where the one before it led
abbrev pub TakesOver : {S : Type 0} → Ghosts S → Takeover → Held S → Held S → Type 0
TakesOver {S} g texts old new = (made : Held S) × (copied : Held S) × (count : ℕ) × (more : ℕ)
    × ((before after : Schema) → Builds before texts.tables after → IsWhole before (state g old).now → Grows before after (state g old).now (state g made).now)
    × Executes texts.copying [] (state g made) (state g copied) (Ok count) × Executes texts.emptying [] (state g copied) (state g new) (Ok more)

-- ---- what a call makes of them

-- the rows after an upgrade
abbrev pub renewed : TableVersion → AllRows → AllRows
renewed Third rows = all_in_version this_version rows
renewed Fourth rows = all_in_version this_version rows
renewed Fifth rows = rows
