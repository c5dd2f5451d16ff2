-- A change of one table leaves an office, and the rows of the other tables.
use Rattle.office_contents.proofs.Common.{◌≡◌, ℕ, ◌==◌, length, List, [], ◌∷◌, map, false, refl, sym, ap, subst₂, ◌∙◌, inl, inr, AllByRecursion, list_any, none_from_any, all_both, cases_Bool, Row, Edit, edit_of, edited, Chosen, Table, Database, Trees, State, AreShaped, Changes, IsIdle, whole_after, with_rows, rows_after, office_schema, all_tables, emptied_trees, file_tree, Tables, int_at, IsOffice, Becomes, tables_of, contents_of, content_in, references_of, AreStoredOnce, StoresOnce, HasSameContents}
use Rattle.office_contents.proofs.TablePlaces.{of_office, of_callers, of_old_rules, of_classes, of_collections, of_deposits, of_files, of_old_holds, of_contents, of_holds, of_rules}
use Rattle.office_contents.specs.Versions.{Newest, schema_at}
use Rattle.office_contents.specs.declared.version.TableVersion.{TableVersion}
use Rattle.office_contents.specs.declared.version.TableVersion.TheVariants.{Third}

-- no reference of the schema acts, in any version
pub idle_at : (version : TableVersion) → IsIdle (schema_at version)
idle_at Third tree olds news = elim (cases_Bool (length news == 0)) [ inl is ↦ rw is refl | inr isnt ↦ rw isnt refl ]
idle_at _ tree olds news = elim (cases_Bool (length news == 0)) [ inl is ↦ rw is refl | inr isnt ↦ rw isnt refl ]

pub idle : IsIdle office_schema
idle = idle_at Newest

-- databases whose tables have the same rows show the same; each table has its place here
same_tables : (a b : Database) → AllByRecursion (λ t. a.trees t.tree ≡ b.trees t.tree) all_tables → tables_of a ≡ tables_of b
same_tables a b is =
    rw (of_office is, of_callers is, of_classes is, of_collections is, of_deposits is, of_files is, of_contents is, of_holds is, of_rules is) refl

-- the edit that adds the row to the table
abbrev pub adding : Table → Row → State → Edit
adding table row old = edit_of old.now.trees table [] Chosen 0 (row ∷ [])

-- the database with the rows of the edit in its table
abbrev pub with_edit : Edit → Database → Database
with_edit edit db = record db { trees = with_rows edit.table.tree (edited db.trees edit) db.trees }

-- the trees of the tables that hold nothing any more
abbrev pub StayEmpty : Trees → Type 0
StayEmpty trees = AllByRecursion (λ tree. trees tree ≡ []) emptied_trees

-- none of them is the one that is written
abbrev pub AreOthers : ℕ → Type 0
AreOthers written = list_any (λ tree. tree == written) emptied_trees ≡ false

same_rows : (edit : Edit) (db : Database) (tree : ℕ) → (tree == edit.table.tree) ≡ false → db.trees tree ≡ [] → (with_edit edit db).trees tree ≡ []
same_rows edit db tree other empty = rw other empty

-- what is so of each table is so of those
pub of_emptied : (P : ℕ → Type 0) → AllByRecursion (λ (t : Table). P t.tree) all_tables → AllByRecursion P emptied_trees
of_emptied P each = (of_old_holds each, (of_old_rules each, tt))

-- where each table has the rows that it has there, they are as empty
pub still_empty : (a b : Database) → AllByRecursion (λ t. a.trees t.tree ≡ b.trees t.tree) all_tables → StayEmpty b.trees → StayEmpty a.trees
still_empty a b is empty = all_both (λ tree (same : a.trees tree ≡ b.trees tree) (none : b.trees tree ≡ []). same ∙ none) emptied_trees (of_emptied (λ tree. a.trees tree ≡ b.trees tree) is) empty

pub becomes_shaped : (old new : State) (edit : Edit) (count : ℕ) (written : List Row) → AreShaped office_schema old.now.trees → StayEmpty old.now.trees → AreOthers edit.table.tree
    → Changes office_schema old new edit count written → (tables : Tables) → tables_of (with_edit edit old.now) ≡ tables → Becomes new.now tables
becomes_shaped old new edit count written shaped empty others change tables is =
    let after = rows_after office_schema old new edit count written change in
    record {
      office = record {
        whole = whole_after office_schema old new edit count written change shaped;
        emptied = still_empty new.now (with_edit edit old.now) after (all_both (same_rows edit old.now) emptied_trees (none_from_any (λ tree. tree == edit.table.tree) emptied_trees others) empty);
      };
      are = same_tables new.now (with_edit edit old.now) after ∙ is;
    }

pub becomes : (old new : State) (edit : Edit) (count : ℕ) (written : List Row) → IsOffice old.now → AreOthers edit.table.tree → Changes office_schema old new edit count written
    → (tables : Tables) → tables_of (with_edit edit old.now) ≡ tables → Becomes new.now tables
becomes old new edit count written office others change tables is = becomes_shaped old new edit count written office.whole.shaped office.emptied others change tables is

-- what the change leaves of the contents, and of the files
module _ (old new : State) (edit : Edit) (count : ℕ) (written : List Row) (change : Changes office_schema old new edit count written) where
  pub file_rows_after : new.now.trees file_tree ≡ (with_edit edit old.now).trees file_tree
  file_rows_after = of_files (rows_after office_schema old new edit count written change)

  pub contents_after : contents_of new.now ≡ contents_of (with_edit edit old.now)
  contents_after = ap (map content_in) (of_contents (rows_after office_schema old new edit count written change))

  pub references_after : references_of new.now ≡ references_of (with_edit edit old.now)
  references_after = ap (map (λ (row : Row). int_at row 3)) file_rows_after

  -- they are the same where the change is of another table
  pub same_contents : contents_of (with_edit edit old.now) ≡ contents_of old.now → references_of (with_edit edit old.now) ≡ references_of old.now → HasSameContents old.now new.now
  same_contents contents references = record { contents = contents_after ∙ contents; references = references_after ∙ references }

-- so contents that were stored once still are
pub stored_once : {old new : Database} → HasSameContents old new → StoresOnce old → StoresOnce new
stored_once same once = subst₂ AreStoredOnce (sym same.references) (sym same.contents) once

-- where no row changed
pub same_as : {old new : Database} → new ≡ old → HasSameContents old new
same_as same = record { contents = ap contents_of same; references = ap references_of same }

-- one after another
pub same_after : {old mid new : Database} → HasSameContents old mid → HasSameContents mid new → HasSameContents old new
same_after first second = record { contents = second.contents ∙ first.contents; references = second.references ∙ first.references }
