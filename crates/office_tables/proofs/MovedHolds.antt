-- The holds, taken over into the table whose holds may name a class.
use Rattle.office_tables.proofs.FirstLemmas.{◌≡◌, ◌⊎◌, ℕ, [], map, drop, Ok, IsTrue, refl, ap, ◌∙◌, inr, AllByRecursion, Null, Int, Text, Row, column, cast, cast_row, Schema, rowid, Database, State, Executes, Datatype, NotNull, is_int, all_has, int_is, int_at, bytes_at, IsWhole, Sets, Grows, typed_at, all_both, cast_null, obeys_rule, shown_of, hold_table, hold_4_table, old_hold_tree, hold_tree, hold_in, AllRows, moved_hold, BecomesAt, rows_at, schema_at, old_hold_in, Third, Fourth, of_office, of_callers, of_old_rules, of_classes, of_collections, of_files, of_old_holds, of_contents, eight, keeps_int, keeps_text, takes_over, empties, starts_empty, rows_taken, others_kept, List, ◌∷◌, codes, understood, everything, Term, lit, col, Insert, Delete, scan, as_program, noting, rising, Means, idle_at, of_first_deposits}
use Rattle.sqlite.specs.Kind.TheVariants as kind
use Rattle.sqlite.specs.Source.TheVariants.{Query}

abbrev fourth : Schema
fourth = schema_at Fourth

-- ---- the two statements

abbrev pub copy_holds_text : List ℕ
copy_holds_text = codes "INSERT INTO hold_4 (number, deposit, collection, class, matter, placed, released) SELECT number, deposit, collection, NULL, matter, placed, released FROM hold ORDER BY number"

abbrev copied_hold : List Term
copied_hold = col 1 0 ∷ lit Null ∷ col 1 2 ∷ col 1 3 ∷ lit Null ∷ col 1 4 ∷ col 1 5 ∷ col 1 6 ∷ []

copy_holds_means : Means fourth copy_holds_text (Insert 9 (Query (as_program (noting eight (scan old_hold_tree [] copied_hold rising)))))
unfolding understood everything
copy_holds_means = record { is = refl; plain = (refl, refl) }

abbrev pub empty_holds_text : List ℕ
empty_holds_text = codes "DELETE FROM hold"

empty_holds_means : Means fourth empty_holds_text (Delete 7 (as_program (scan old_hold_tree [] (col 1 0 ∷ []) [])))
unfolding understood everything
empty_holds_means = record { is = refl; plain = (refl, refl) }

abbrev IsStored : Row → Type 0
IsStored r = ((column r 2 ≡ Null) ⊎ (column r 2 ≡ Int (int_at r 2))) × ((column r 3 ≡ Null) ⊎ (column r 3 ≡ Text (bytes_at r 3)))
    × (column r 4 ≡ Text (bytes_at r 4)) × (column r 5 ≡ Int (int_at r 5)) × ((column r 6 ≡ Null) ⊎ (column r 6 ≡ Int (int_at r 6)))

stored_rows : (db : Database) → IsWhole fourth db → AllByRecursion IsStored (db.trees old_hold_tree)
stored_rows db whole = all_both (λ r typed present.
    let at = typed_at fourth db.trees hold_table r typed present in
    (at 1 refl, at 2 refl, at 3 refl, at 4 refl, at 5 refl)) (db.trees old_hold_tree) (of_old_holds (obeys_rule whole Datatype)) (of_old_holds (obeys_rule whole NotNull))

moves_row : (r : Row) → IsStored r → IsTrue (is_int (rowid r)) → cast_row hold_4_table (shown_of [] copied_hold r) ≡ moved_hold r
moves_row r it whole =
    let casts : cast kind.Integer (rowid r) ≡ rowid r = keeps_int (rowid r) (inr (int_is (rowid r) whole)) in
    rw (casts, cast_null, keeps_int (column r 2) it.0, keeps_text (column r 3) it.1, keeps_text (column r 4) (inr it.2), keeps_int (column r 5) (inr it.3), keeps_int (column r 6) it.4) refl

pub copies_holds : (old new : State) (count : ℕ) → IsWhole fourth old.now → old.now.trees hold_tree ≡ [] → Executes copy_holds_text [] old new (Ok count)
    → Sets fourth hold_tree (map moved_hold (old.now.trees old_hold_tree)) old.now new.now
copies_holds = takes_over fourth (idle_at Fourth) hold_table 7 refl (λ db whole. of_old_holds whole.shaped) hold_4_table 9 refl refl refl copied_hold eight moved_hold copy_holds_text copy_holds_means
    (λ db whole r there. moves_row r (all_has IsStored (db.trees old_hold_tree) r (stored_rows db whole) there)) (λ r. refl)

pub empties_holds : (old new : State) (count : ℕ) → IsWhole fourth old.now → Executes empty_holds_text [] old new (Ok count) → Sets fourth old_hold_tree [] old.now new.now
empties_holds = empties fourth (idle_at Fourth) hold_table 7 refl (λ db whole. of_old_holds whole.shaped) empty_holds_text empty_holds_means

-- ---- all of it

-- the holds are copied into the table that was made, and their old table is emptied; each other table has its place here
module _ (d0 d1 : Database) (grown : Grows (schema_at Third) fourth d0 d1) where
  pub new_is_empty : d1.trees hold_tree ≡ []
  new_is_empty = starts_empty (schema_at Third) fourth hold_table hold_4_table refl refl d0 d1 grown (ap (drop 9) grown.tables)

  pub holds_moved : (rows : AllRows) (d2 d3 : Database) → BecomesAt Third d0 rows → Sets fourth hold_tree (map moved_hold (d1.trees old_hold_tree)) d1 d2 → Sets fourth old_hold_tree [] d2 d3 → BecomesAt Fourth d3 rows
  holds_moved rows d2 d3 was copied emptied =
      let typed : map hold_in (d3.trees hold_tree) ≡ map old_hold_in (d0.trees old_hold_tree) =
      rows_taken (schema_at Third) fourth hold_table hold_4_table refl refl d0 d1 grown (ap (drop 9) grown.tables) moved_hold d2 d3 copied emptied hold_in (of_old_holds grown.kept) in
      let o = others_kept (schema_at Third) fourth hold_table hold_4_table refl refl d0 d1 grown (ap (drop 9) grown.tables) moved_hold d2 d3 copied emptied in
      let same : rows_at Fourth d3 ≡ rows_at Third d0 = rw (typed, of_office o, of_callers o, of_old_rules o, of_classes o, of_collections o, of_first_deposits o, of_files o, of_contents o) refl in
      record { office = record { whole = emptied.whole; emptied = (of_old_holds o, tt) }; are = same ∙ was.are }
