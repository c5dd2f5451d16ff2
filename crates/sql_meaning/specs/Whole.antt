-- A database that keeps to its schema and rules.
use Rattle.std.specs.Prelude.{◌≡◌, ◌==◌, if◌then◌else◌, ℕ, List, []}
use Rattle.std.specs.List.{AllByRecursion}
use Rattle.sqlite.specs.Order.{Row}
use Rattle.sqlite.specs.Tree.{Trees}
use Rattle.sqlite.specs.Schema.{Schema}
use Rattle.sqlite.specs.Effect.{Database, IsDatabase}
use Rattle.sqlite.specs.View.{IsShaped}
use Rattle.sqlite_trees.specs.declared.store.Shape.TheVariants as shape

-- the rows of each table ascend by their rowids
abbrev pub AreShaped : Schema → Trees → Type 0
AreShaped schema db = AllByRecursion (λ t. IsShaped shape.Table (db t.tree)) schema.tables

-- the database has this schema, which its trees list and whose rules they keep, and rows in the order of their rowids
pub record IsWhole (schema : Schema) (db : Database) : Type 0 where
  pub schema_is : db.schema ≡ schema
  pub listed : IsDatabase db
  pub shaped : AreShaped schema db.trees

-- the database has this schema, and no row
pub record IsBlank (schema : Schema) (db : Database) : Type 0 where
  pub schema_is : db.schema ≡ schema
  pub empty : AllByRecursion (λ t. db.trees t.tree ≡ []) schema.tables

-- the trees with these rows in that one
abbrev pub with_rows : ℕ → List Row → Trees → Trees
with_rows tree rows db at = if at == tree then rows else db at

-- the table with this tree has these rows, and each other table has those that it had
pub record Sets (schema : Schema) (tree : ℕ) (given : List Row) (old new : Database) : Type 0 where
  pub whole : IsWhole schema new
  pub given_rows : AllByRecursion (λ t. new.trees t.tree ≡ with_rows tree given old.trees t.tree) schema.tables
