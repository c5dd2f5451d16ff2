-- That an office has these rows comes out of a truncation.
use Rattle.office_tables.proofs.Common.{◌≡◌, ℕ, ℤ, pos, List, [], map, length, bytes_eq, Bool, true, refl, list_any, int_eq, sha256, Trees, Schema, Database, IsDatabase, AreShaped, IsOfficeAt, emptied_at, schema_at, TableVersion, Newest, Tables, ContentRow, Becomes, contents_of, IsMarked, AreStoredOnce, StoresOnce, references_of, IsLeft}
use Rattle.std.proofs.lemmas.Map.Keys.{IsDistinct-prop}
use Rattle.std.proofs.Math.Logic.{∥∥₁_elim, ∥∥₁_map}
use Rattle.std.specs.Coded.{Coded, Coded-set, codes}
use Rattle.sqlite_schema.specs.contracts.schema.Schema.{the_row}
use Rattle.sqlite_trees.specs.Props.{AllByRecursion-prop, IsShaped-prop, rows_set}
use Rattle.sqlite_trees.specs.declared.store.Shape.TheVariants as shape
use Rattle.office_tables.proofs.FoundAgain.{becomes_again}

tables_coded : Coded Tables
tables_coded = hlevel codes

tables_set : IsSet Tables
tables_set = Coded-set tables_coded

schema_set : IsSet Schema
schema_set = Coded-set the_row.coded

shaped_prop : (schema : Schema) (db : Trees) → IsProp (AreShaped schema db)
shaped_prop schema db = AllByRecursion-prop _ (λ t. IsShaped-prop shape.Table (db t.tree)) schema.tables

-- that a database is an office of a version
pub office_from : (version : TableVersion) (b : Database) → IsDatabase b → ∥ IsOfficeAt version b ∥₁ → IsOfficeAt version b
office_from version b q h =
    let schema_is : b.schema ≡ schema_at version = ∥∥₁_elim h (schema_set _ _) (λ m. m.whole.schema_is) in
    record {
      whole = record {
        schema_is = schema_is;
        listed = q;
        shaped = ∥∥₁_elim h (shaped_prop (schema_at version) b.trees) (λ m. m.whole.shaped);
      };
      emptied = ∥∥₁_elim h (AllByRecursion-prop _ (λ tree. rows_set (b.trees tree) []) (emptied_at version)) (λ m. m.emptied);
    }

-- that it has these rows
pub rows_from : (a b : Tables) → ∥ a ≡ b ∥₁ → a ≡ b
rows_from a b h = ∥∥₁_elim h (tables_set a b) (λ same. same)

pub becomes_from : (tables : Tables) (b : Database) → IsDatabase b → ∥ Becomes b tables ∥₁ → Becomes b tables
becomes_from tables b q h = record { office = office_from Newest b q (∥∥₁_map h (λ m. m.office)); are = rows_from _ _ (∥∥₁_map h (λ m. m.are)) }

-- what was left comes out of a truncation, where a database is found
pub left_from : (tables : Tables) (b : Database) → IsDatabase b → ∥ IsLeft tables b.trees ∥₁ → IsLeft tables b.trees
left_from tables b q h = (b, becomes_from tables b q (∥∥₁_map h (λ left. becomes_again tables b.trees b left q refl)), refl)

-- ---- contents that are stored once

marked_prop : (c : ContentRow) → IsProp (IsMarked c)
marked_prop c p q = λ i. record { mark = bytes_set c.mark (sha256 c.bytes) p.mark q.mark i; size = ints_set c.size (pos (length c.bytes)) p.size q.size i }
  where
    bytes_set : IsSet (List ℕ)
    bytes_set = Coded-set (hlevel codes)

    ints_set : IsSet ℤ
    ints_set = Coded-set (hlevel codes)

once_prop : (refs : List ℤ) (cs : List ContentRow) → IsProp (AreStoredOnce refs cs)
once_prop refs cs p q = λ i. record {
  once = IsDistinct-prop bytes_eq (map (λ (c : ContentRow). c.bytes) cs) p.once q.once i;
  marked = AllByRecursion-prop IsMarked marked_prop cs p.marked q.marked i;
  used = AllByRecursion-prop (λ (c : ContentRow). list_any (λ id. int_eq id c.id) refs ≡ true) (λ c. bool_set _ _) cs p.used q.used i;
}
  where
    bool_set : IsSet Bool
    bool_set = Coded-set (hlevel codes)

-- that contents are stored once comes out of a truncation
pub once_from : (db : Database) → ∥ StoresOnce db ∥₁ → StoresOnce db
once_from db h = ∥∥₁_elim h (once_prop (references_of db) (contents_of db)) (λ once. once)
