-- The rules, taken over into the table whose rules have days.
use Rattle.office_tables.proofs.FirstLemmas.{◌≡◌, ℕ, [], ◌∷◌, map, drop, Ok, IsTrue, refl, ap, ◌∙◌, inr, AllByRecursion, Int, Text, Row, column, cast, cast_row, Schema, rowid, Database, State, Executes, Binary, Datatype, NotNull, is_int, all_has, int_is, int_at, bytes_at, IsWhole, Sets, Grows, typed_at, all_both, cast_null, cast_int, obeys_rule, shown_of, rule_table, rule_5_table, old_rule_tree, old_hold_tree, rule_tree, rule_in, AllRows, moved_rule, BecomesAt, rows_at, first_day, last_day, schema_at, old_rule_in, Fourth, Fifth, of_office, of_callers, of_old_rules, of_classes, of_collections, of_files, of_old_holds, of_contents, of_holds, eight, takes_over, empties, starts_empty, rows_taken, others_kept, keeps_int, keeps_text, List, codes, understood, everything, Term, lit, col, Null, Insert, Delete, scan, as_program, noting, rising, Means, idle_at, of_first_deposits}
use Rattle.sqlite.specs.Kind.TheVariants as kind
use Rattle.sqlite.specs.Source.TheVariants.{Query}

abbrev fifth : Schema
fifth = schema_at Fifth

abbrev pub copy_rules_text : List ℕ
copy_rules_text = codes "INSERT INTO rule_5 (place, effect, role, action, collection, class, first, last) SELECT place, effect, role, action, collection, class, -25567, 2859848 FROM rule ORDER BY place"

abbrev copied_rule : List Term
copied_rule = col 1 0 ∷ lit Null ∷ col 1 2 ∷ col 1 3 ∷ col 1 4 ∷ col 1 5 ∷ col 1 6 ∷ lit (Int first_day) ∷ lit (Int last_day) ∷ []

copy_rules_means : Means fifth copy_rules_text (Insert 10 (Query (as_program (noting (Binary ∷ eight) (scan old_rule_tree [] copied_rule rising)))))
unfolding understood everything
copy_rules_means = record { is = refl; plain = (refl, refl) }

abbrev pub empty_rules_text : List ℕ
empty_rules_text = codes "DELETE FROM rule"

empty_rules_means : Means fifth empty_rules_text (Delete 2 (as_program (scan old_rule_tree [] (col 1 0 ∷ []) [])))
unfolding understood everything
empty_rules_means = record { is = refl; plain = (refl, refl) }

abbrev IsStored : Row → Type 0
IsStored r = (column r 2 ≡ Int (int_at r 2)) × (column r 3 ≡ Text (bytes_at r 3)) × (column r 4 ≡ Text (bytes_at r 4)) × (column r 5 ≡ Text (bytes_at r 5)) × (column r 6 ≡ Text (bytes_at r 6))

stored_rows : (db : Database) → IsWhole fifth db → AllByRecursion IsStored (db.trees old_rule_tree)
stored_rows db whole = all_both (λ r typed present.
    let at = typed_at fifth db.trees rule_table r typed present in
    (at 1 refl, at 2 refl, at 3 refl, at 4 refl, at 5 refl)) (db.trees old_rule_tree) (of_old_rules (obeys_rule whole Datatype)) (of_old_rules (obeys_rule whole NotNull))

moves_row : (r : Row) → IsStored r → IsTrue (is_int (rowid r)) → cast_row rule_5_table (shown_of [] copied_rule r) ≡ moved_rule r
moves_row r it whole =
    let casts : cast kind.Integer (rowid r) ≡ rowid r = keeps_int (rowid r) (inr (int_is (rowid r) whole)) in
    rw (casts, cast_null, keeps_int (column r 2) (inr it.0), keeps_text (column r 3) (inr it.1), keeps_text (column r 4) (inr it.2), keeps_text (column r 5) (inr it.3), keeps_text (column r 6) (inr it.4), cast_int first_day, cast_int last_day) refl

pub copies_rules : (old new : State) (count : ℕ) → IsWhole fifth old.now → old.now.trees rule_tree ≡ [] → Executes copy_rules_text [] old new (Ok count)
    → Sets fifth rule_tree (map moved_rule (old.now.trees old_rule_tree)) old.now new.now
copies_rules = takes_over fifth (idle_at Fifth) rule_table 2 refl (λ db whole. of_old_rules whole.shaped) rule_5_table 10 refl refl refl copied_rule (Binary ∷ eight) moved_rule copy_rules_text copy_rules_means
    (λ db whole r there. moves_row r (all_has IsStored (db.trees old_rule_tree) r (stored_rows db whole) there)) (λ r. refl)

pub empties_rules : (old new : State) (count : ℕ) → IsWhole fifth old.now → Executes empty_rules_text [] old new (Ok count) → Sets fifth old_rule_tree [] old.now new.now
empties_rules = empties fifth (idle_at Fifth) rule_table 2 refl (λ db whole. of_old_rules whole.shaped) empty_rules_text empty_rules_means

-- the rules are copied into the table that was made, and their old table is emptied; each other table has its place here
module _ (d0 d1 : Database) (grown : Grows (schema_at Fourth) fifth d0 d1) where
  pub new_is_empty : d1.trees rule_tree ≡ []
  new_is_empty = starts_empty (schema_at Fourth) fifth rule_table rule_5_table refl refl d0 d1 grown (ap (drop 10) grown.tables)

  pub rules_moved : (rows : AllRows) (d2 d3 : Database) → BecomesAt Fourth d0 rows → Sets fifth rule_tree (map moved_rule (d1.trees old_rule_tree)) d1 d2 → Sets fifth old_rule_tree [] d2 d3 → BecomesAt Fifth d3 rows
  rules_moved rows d2 d3 was copied emptied =
      let typed : map rule_in (d3.trees rule_tree) ≡ map old_rule_in (d0.trees old_rule_tree) =
      rows_taken (schema_at Fourth) fifth rule_table rule_5_table refl refl d0 d1 grown (ap (drop 10) grown.tables) moved_rule d2 d3 copied emptied rule_in (of_old_rules grown.kept) in
      let o = others_kept (schema_at Fourth) fifth rule_table rule_5_table refl refl d0 d1 grown (ap (drop 10) grown.tables) moved_rule d2 d3 copied emptied in
      let same : rows_at Fifth d3 ≡ rows_at Fourth d0 = rw (typed, of_office o, of_callers o, of_classes o, of_collections o, of_first_deposits o, of_files o, of_contents o, of_holds o) refl in
      let still : d3.trees old_hold_tree ≡ [] = of_old_holds o ∙ was.office.emptied.0 in
      record { office = record { whole = emptied.whole; emptied = (still, (of_old_rules o, tt)) }; are = same ∙ was.are }
