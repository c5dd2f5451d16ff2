-- What CREATE texts make of a schema, one after another.
use Rattle.std.specs.Prelude.{◌≡◌, ◌⊎◌, ℕ, List, [], ◌∷◌, Ok, Some, false, slice_get}
use Rattle.sqlite.specs.Compile.{table_defined_by, index_defined_by}
use Rattle.sqlite.specs.Change.{created, indexed}
use Rattle.sqlite.specs.Command.TheVariants.{CreateTable, CreateIndex}
use Rattle.sqlite.specs.Table.{Table}
use Rattle.sqlite.specs.Schema.{Schema}
use Rattle.sqlite_schema.specs.declared.schema.Index.{Index}
use Rattle.sqlite.specs.Does.{lacks_sequence}
use Rattle.sqlite.specs.Listing.{understood}
use Rattle.sqlite.proofs.Callers.{IsPlain, command_of, statement_of}

-- the text, run under the schema, makes a table
pub record MakesTable (schema : Schema) (text : List ℕ) (after : Schema) : Type 0 where
  pub command : command_of (understood schema text) ≡ CreateTable
  pub statement : statement_of text (understood schema text) ≡ text
  pub plain : IsPlain (understood schema text)
  pub table : Table
  pub defined : table_defined_by text ≡ Ok table
  pub is : created schema table ≡ after
  pub uncounted : lacks_sequence after ≡ false

-- the text, run under the schema, makes an index
pub record MakesIndex (schema : Schema) (text : List ℕ) (after : Schema) : Type 0 where
  pub at : ℕ
  pub command : command_of (understood schema text) ≡ CreateIndex at
  pub statement : statement_of text (understood schema text) ≡ text
  pub plain : IsPlain (understood schema text)
  pub table : Table
  pub place : slice_get schema.tables at ≡ Some table
  pub index : Index
  pub defined : index_defined_by table text ≡ Ok index
  pub is : indexed schema table index ≡ after

-- the texts, run in turn under the schema, lead to the last one
abbrev pub Builds : Schema → List (List ℕ) → Schema → Type 0
Builds schema [] after = schema ≡ after
Builds schema (text ∷ texts) after = (mid : Schema) × (MakesTable schema text mid ⊎ MakesIndex schema text mid) × Builds mid texts after
