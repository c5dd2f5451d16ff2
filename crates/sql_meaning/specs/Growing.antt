-- What CREATE texts add to a database, with the rows that it has.
use Rattle.std.specs.Prelude.{◌≡◌, List, [], ◌++◌}
use Rattle.std.specs.List.{AllByRecursion}
use Rattle.sqlite.specs.Change.{KeepsRows}
use Rattle.sqlite.specs.Table.{Table}
use Rattle.sqlite.specs.Schema.{Schema}
use Rattle.sqlite.specs.Effect.{Database}
use Rattle.sql_meaning.specs.Whole.{IsWhole}

-- A whole database stays whole. The tables of before come first, with the rows that they had, and those that
-- were added have no row.
pub record Grows (before after : Schema) (old new : Database) : Type 0 where
  pub schema_is : new.schema ≡ after
  pub whole : IsWhole before old → IsWhole after new
  pub more : List Table
  pub tables : after.tables ≡ before.tables ++ more
  pub kept : KeepsRows before.tables old.trees new.trees
  pub empty : AllByRecursion (λ t. new.trees t.tree ≡ []) more
