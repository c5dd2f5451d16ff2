-- When a database is an office, and what making and opening one leaves.
use Rattle.std.specs.Prelude.{◌⊎◌, ◌&&◌, ◌==◌, IsTrue, is_some, slice_get, option_and_then, find, ◌≡◌, ◌≢◌, ℕ, ℤ, Bool, true, false, List, [], codes, Option, Some, None, Ok, Result, IfOk, IfErr, pos}
use Rattle.sqlite.specs.declared.types.Value.{Value}
use Rattle.sqlite.specs.declared.types.Value.TheVariants.{Int}
use Rattle.sqlite.specs.Order.{Row, column}
use Rattle.sqlite.specs.Table.{Table}
use Rattle.sqlite.specs.Tree.{Trees}
use Rattle.sqlite.specs.Schema.{Schema}
use Rattle.sqlite.specs.Listing.{understood, reads_listing, IsSourceOf}
use Rattle.sqlite.specs.Effect.{Database, Reads}
use Rattle.sqlite.specs.State.{State, HasCleanDisk}
use Rattle.sqlite.specs.Store.{Ghosts}
use Rattle.sqlite.specs.Held.{Held, state}
use Rattle.sqlite_schema.specs.Names.{table_named, column_named}
use Rattle.sqlite_resolve.specs.declared.compiled.Compiled.{Compiled}
use Rattle.office_rows.specs.Rows.{Tables, is_limit, version_of}
use Rattle.office_contents.specs.Tables.{Becomes}
use Rattle.office_contents.specs.Contents.{StoresOnce}
use Rattle.office_contents.specs.declared.fault.TableFault.{TableFault}

-- ---- what is left

-- the tables are as they were, and all of them are committed
abbrev pub HasSameTables : State → State → Type 0
HasSameTables old new = IsTrue new.is_open → IsTrue old.is_open × (new.now ≡ old.now) × (new.committed ≡ old.now)

-- an office with these rows, and all of it is committed
pub record IsMade (new : State) (tables : Tables) : Type 0 where
  pub is_open : IsTrue new.is_open
  pub becomes : Becomes new.now tables
  pub once : StoresOnce new.now
  pub committed : new.committed ≡ new.now

-- what a crash may leave, where it leaves the trees of an office with these rows
abbrev pub IsLeft : Tables → Trees → Type 0
IsLeft tables left = (made : Database) × Becomes made tables × (left ≡ made.trees)

-- the same of an office that was just made, whose contents are stored once
abbrev pub IsMadeLeft : Tables → Trees → Type 0
IsMadeLeft tables left = (made : Database) × Becomes made tables × StoresOnce made × (left ≡ made.trees)

-- ---- a connection that is taken, and handed back

-- on Ok this is so of the connection, where the disk is honest
abbrev pub IfTaken : {S E : Type 0} → Ghosts S → Result (Held S) E → (State → Type 0) → Type 0
IfTaken g result is_so = IfOk result (λ taken. HasCleanDisk (state g taken) → is_so (state g taken))

-- on a refusal this is so of the connection that is handed back, and of the fault
abbrev pub IfRefused : {S : Type 0} → Ghosts S → Result (Held S) (Held S × TableFault) → (State → TableFault → Type 0) → Type 0
IfRefused g result is_so = IfErr result (λ e. HasCleanDisk (state g e.0) → is_so (state g e.0) e.1)

-- ---- the row by which an office is known

abbrev pub look_text : List ℕ
look_text = codes "SELECT id, version, max_deposits, max_holds FROM office ORDER BY version"

abbrev pub has_columns : Option Table → Bool
has_columns None = false
has_columns (Some t) = is_some (column_named t (codes "id")) && is_some (column_named t (codes "version")) && is_some (column_named t (codes "max_deposits")) && is_some (column_named t (codes "max_holds"))

-- the schema has a table office with its columns, as SQL compares names
abbrev pub has_office : Schema → Bool
has_office schema = has_columns (option_and_then (slice_get schema.tables) (table_named schema (codes "office")))

-- what SQL shows of the four columns, by version
abbrev pub Looks : Database → List Row → Type 0
Looks db rows = (c : Compiled) × (source : Database) × (understood db.schema look_text ≡ Ok c) × IsSourceOf (reads_listing db.schema look_text) db source × Reads c.command source [] rows

abbrev pub is_one : Value → Bool
is_one (Int (pos n)) = n == 1
is_one _ = false

abbrev pub is_limit_told : Value → Bool
is_limit_told (Int n) = is_limit n
is_limit_told _ = false

abbrev pub is_int : Value → Bool
is_int (Int n) = true
is_int _ = false

-- a row 1 of whole numbers, with limits in range
abbrev pub shows_office : Row → Bool
shows_office row = is_one (column row 0) && (is_int (column row 1) && (is_limit_told (column row 2) && is_limit_told (column row 3)))

-- the first row that is so; a table without a key may have several, which come by version, and of which this one counts
abbrev pub known_row : List Row → Option Row
known_row = find shows_office

abbrev pub NotAnOffice : Database → Type 0
NotAnOffice db = (has_office db.schema ≡ false) ⊎ ((rows : List Row) × Looks db rows × (known_row rows ≡ None))

-- row 1 is there, with this version
abbrev pub HasVersion : Database → ℤ → Type 0
HasVersion db version = (rows : List Row) × (row : Row) × Looks db rows × (known_row rows ≡ Some row) × (column row 1 ≡ Int version)

-- row 1 is there, with another version than this
abbrev pub HasOtherVersion : Database → ℤ → Type 0
HasOtherVersion db version = (other : ℤ) × (other ≢ version) × HasVersion db other

-- the same of the rows of an office
abbrev pub IsKnownAsOther : Tables → ℤ → Type 0
IsKnownAsOther tables version = (other : ℤ) × (other ≢ version) × (version_of tables ≡ Some other)

abbrev pub ShowsVersion : Database → Option ℤ → Type 0
ShowsVersion db None = (rows : List Row) × Looks db rows × (known_row rows ≡ None)
ShowsVersion db (Some version) = HasVersion db version
