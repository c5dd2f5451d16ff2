-- UPDATE of the row that a key names, and DELETE of the rows that pass a test, each as one edit of one table.
use Rattle.sql_meaning.proofs.FirstLemmas.{◌≡◌, ◌⊎◌, ℕ, List, [], ◌∷◌, map, filter, drop, slice_get, not, Bool, true, Some, Ok, if◌then◌else◌, AllByRecursion, Row, Term, cast_row, Table, Schema, rowid, edit_of, edited, taken_by, Given, Update, Delete, State, Executes, IsShaped, Has, ids_of, Changes, IsIdle, Means, updates, deletes, scan, as_program, shown_of, scanned, answers_one, answer_sound, answer_complete, updated, deleted}
use Rattle.sqlite_trees.specs.declared.store.Shape.TheVariants as shape
use Rattle.sql_meaning.proofs.Scanning.{passes}

module _ (text : List ℕ) (params : Row) (old new : State) (schema : Schema) (has : old.now.schema ≡ schema) (at : ℕ) (table : Table)
    (is_table : slice_get schema.tables at ≡ Some table) (idle : IsIdle schema) (shaped : IsShaped shape.Table (old.now.trees table.tree))
    (test columns : List Term) (keep : Row → Bool) (each : AllByRecursion (λ r. passes params test r ≡ keep r) (old.now.trees table.tree)) where
  abbrev stored : List Row
  stored = old.now.trees table.tree

  -- the row that passes is set, and all others are as they were
  pub record Revises (set : Row → Row) (count : ℕ) : Type 0 where
    pub answer : List Row
    pub shows : answer ≡ map (shown_of params columns) (filter keep stored)
    pub change : Changes schema old new (edit_of old.now.trees table (ids_of answer) Given 1 answer) count (edit_of old.now.trees table (ids_of answer) Given 1 answer).news
    pub made : edited old.now.trees (edit_of old.now.trees table (ids_of answer) Given 1 answer) ≡ map (λ r. if keep r then set r else r) stored

  pub revises : Means schema text (Update at (as_program (scan table.tree test columns []))) → (set : Row → Row)
      → (filter keep stored ≡ []) ⊎ ((r : Row) × Has stored r × (keep r ≡ true) × (filter keep stored ≡ r ∷ []))
      → ((r : Row) → Has stored r → (rowid (shown_of params columns r) ≡ rowid r) × (cast_row table (drop 1 (shown_of params columns r)) ≡ set r) × (rowid (set r) ≡ rowid r))
      → (count : ℕ) → Executes text params old new (Ok count) → Revises set count
  revises means set few sets count h =
      let db = old.now.trees in
      let done = updates text params old new schema has at table is_table idle (as_program (scan table.tree test columns [])) means count h in
      let shows = answers_one db params table.tree test columns [] done.0 keep (scanned db params table.tree test columns [] done.0 done.1.answer) each few in
      record { answer = done.0; shows = shows; change = done.2; made = updated db table done.0 keep (shown_of params columns) set shaped few shows sets }

  -- the rows that pass are taken out
  pub record Drops (count : ℕ) : Type 0 where
    pub answer : List Row
    pub change : Changes schema old new (edit_of old.now.trees table (ids_of answer) Given 0 []) count (taken_by old.now.trees (edit_of old.now.trees table (ids_of answer) Given 0 []))
    pub made : edited old.now.trees (edit_of old.now.trees table (ids_of answer) Given 0 []) ≡ filter (λ r. not (keep r)) stored

  pub drops : Means schema text (Delete at (as_program (scan table.tree test columns []))) → ((r : Row) → rowid (shown_of params columns r) ≡ rowid r)
      → (count : ℕ) → Executes text params old new (Ok count) → Drops count
  drops means shows count h =
      let db = old.now.trees in
      let done = deletes text params old new schema has at table is_table idle (as_program (scan table.tree test columns [])) means count h in
      let found = scanned db params table.tree test columns [] done.0 done.1.answer in
      record {
        answer = done.0;
        change = done.2;
        made = deleted db table done.0 keep (shown_of params columns) shaped shows
            (answer_sound db params table.tree test columns [] done.0 keep found each) (answer_complete db params table.tree test columns [] done.0 keep found each);
      }
