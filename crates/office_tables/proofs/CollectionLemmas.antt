-- What the statements on collections do to the rows of an office.
use Rattle.office_tables.proofs.FirstLemmas.{◌≡◌, ◌⊎◌, ℕ, List, [], ◌∷◌, map, filter, length, ◌==◌, not, true, Ok, refl, ap, sym, ◌∙◌, inl, inr, arith, cases_Bool, map-append, nat_tests, AllByRecursion, list_any, Null, Text, Row, column, edit_of, Chosen, cast_row, Database, State, Shown, Executes, Datatype, NotNull, Unique, Has, bytes_at, inserts, shown_of, finds_any, has_text, few_named, typed_at, all_both, appended, cast_null, obeys_rule, office_schema, collection_table, collection_tree, has_collection, is_collection, with_new_collection, IsOffice, Becomes, tables_of, collection_in, of_collections, idle, becomes, find_text, add_collection_text, class_meanings, only, all_given, reads_named}

pub collection_rows : (db : Database) → IsOffice db → AllByRecursion (λ r. column r 1 ≡ Text (bytes_at r 1)) (db.trees collection_tree)
collection_rows db office = all_both (λ r typed present. typed_at office_schema db.trees collection_table r typed present 0 refl)
    (db.trees collection_tree) (of_collections (obeys_rule office.whole Datatype)) (of_collections (obeys_rule office.whole NotNull))

module _ (db : Database) (office : IsOffice db) (name : List ℕ) where
  few : (filter (has_text 1 name) (db.trees collection_tree) ≡ []) ⊎ ((r : Row) × Has (db.trees collection_tree) r × (has_text 1 name r ≡ true) × (filter (has_text 1 name) (db.trees collection_tree) ≡ r ∷ []))
  few = few_named 1 (db.trees collection_tree) (of_collections office.whole.shaped) (collection_rows db office) (of_collections (obeys_rule office.whole Unique)) name

some_there : {X : Type 0} (xs : List X) → list_any (λ x. true) xs ≡ not (length xs == 0)
some_there [] = refl
some_there (x ∷ xs) = elim (cases_Bool (length (x ∷ xs) == 0)) [
  | inl is ↦ absurd (let none : length (x ∷ xs) ≡ 0 = grind (arith, nat_tests) in omega arith)
  | inr isnt ↦ sym (ap not isnt)
]

pub finds_collection : (old new : State) (name : List ℕ) (rows : List Row) → IsOffice old.now → Shown find_text (Text name ∷ []) old new rows
    → (new.now ≡ old.now) × (has_collection name (tables_of old.now) ≡ not (length rows == 0))
finds_collection old new name rows office h =
    let read = reads_named old new rows office 1 class_meanings.asks_collection name (collection_rows old.now office) (few old.now office name) h in
    (read.0, finds_any (old.now.trees collection_tree) rows (has_text 1 name) (shown_of (Text name ∷ []) (only 1)) collection_in (is_collection name) (λ r. refl) read.1 ∙ some_there rows)

pub adds_collection : (old new : State) (name : List ℕ) (count : ℕ) → IsOffice old.now → Executes add_collection_text (Text name ∷ []) old new (Ok count)
    → Becomes new.now (with_new_collection name (tables_of old.now))
adds_collection old new name count office h =
    let params : Row = Text name ∷ [] in
    let db = old.now.trees in
    let source : Row = Null ∷ Text name ∷ [] in
    let edit = edit_of db collection_table [] Chosen 0 (source ∷ []) in
    let done = inserts add_collection_text params old new office_schema office.whole.schema_is 4 collection_table refl idle (all_given 1) 2 class_meanings.add_collection_means refl refl count h in
    let cast_is : cast_row collection_table source ≡ Null ∷ Text name ∷ [] = rw cast_null refl in
    let end = appended db collection_table source (Text name ∷ []) (of_collections office.whole.shaped) cast_is in
    becomes old new edit count edit.news office refl done _ (ap (λ rows. record (tables_of old.now) { collections = rows }) (ap (map collection_in) end ∙ map-append collection_in (db collection_tree) _))
