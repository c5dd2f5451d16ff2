-- What CREATE TABLE and CREATE INDEX make of a schema that has no row yet.
use Rattle.sql_meaning.proofs.Common.{◌≡◌, ◌⊎◌, ℕ, List, [], Ok, refl, Schema, Database, State, Executes, MakesTable, MakesIndex, IsBlank, Grows}
use Rattle.sql_meaning.proofs.Growing.{each_grown, grows_one}

-- where no table had a row, none has one
pub grown_blank : (before after : Schema) (old new : Database) → Grows before after old new → IsBlank before old → IsBlank after new
grown_blank before after old new grown blank =
    record { schema_is = grown.schema_is; empty = each_grown (λ rows. rows ≡ []) refl before.tables grown.more after.tables old.trees new.trees grown.tables grown.kept grown.empty blank.empty }

pub makes_next : (schema : Schema) (text : List ℕ) (after : Schema) → MakesTable schema text after ⊎ MakesIndex schema text after → (old new : State) (count : ℕ) → IsBlank schema old.now → Executes text [] old new (Ok count)
    → IsBlank after new.now
makes_next schema text after makes old new count blank h = grown_blank schema after old.now new.now (grows_one schema text after makes old new count blank.schema_is h) blank
