-- INSERT of what a query shows of each row of another table, as one edit: the rows come over in their order.
use Rattle.sql_meaning.proofs.FirstLemmas.{◌≡◌, ℕ, List, [], map, slice_get, true, false, Some, Ok, refl, ap, ◌∙◌, AllByRecursion, Row, Term, cast_row, Table, Schema, rowid, edit_of, edited, Chosen, Insert, State, Executes, overlay, IsShaped, Has, all_from, ascending_weaker, map-map, Collation, filter_all, Changes, IsIdle, Means, inserts_from, scan, noting, as_program, shown_of, scanned, unnoted, answers_rising, map_alike, set_shaped, filled}
use Rattle.sqlite.specs.Source.TheVariants.{Query}
use Rattle.sqlite_trees.specs.declared.store.Shape.TheVariants as shape
use Rattle.sql_meaning.proofs.Scanning.{passes}
use Rattle.sql_meaning.proofs.RowidKeys.{rising}

module _ (text : List ℕ) (params : Row) (old new : State) (schema : Schema) (has : old.now.schema ≡ schema) (at : ℕ) (table : Table)
    (is_table : slice_get schema.tables at ≡ Some table) (idle : IsIdle schema) (uncounted : table.is_counted ≡ false) (unstamped : table.stamps.terms ≡ [])
    (from : ℕ) (columns : List Term) (collations : List Collation) (moved : Row → Row) where
  abbrev stored : List Row
  stored = old.now.trees from

  -- the table has each row of the other, as it was moved
  pub record Copies (count : ℕ) : Type 0 where
    pub answer : List Row
    pub change : Changes schema old new (edit_of old.now.trees table [] Chosen 0 answer) count (edit_of old.now.trees table [] Chosen 0 answer).news
    pub made : edited old.now.trees (edit_of old.now.trees table [] Chosen 0 answer) ≡ map moved stored

  -- where it had no row, and each row keeps its rowid
  pub copies : Means schema text (Insert at (Query (as_program (noting collations (scan from [] columns rising))))) → IsShaped shape.Table stored → old.now.trees table.tree ≡ []
      → ((r : Row) → Has stored r → (cast_row table (shown_of params columns r) ≡ moved r) × (rowid (moved r) ≡ rowid r))
      → (count : ℕ) → Executes text params old new (Ok count) → Copies count
  copies means shaped none moves count h =
      let db = old.now.trees in
      let done = inserts_from text params old new schema has at table is_table idle (Query (as_program (noting collations (scan from [] columns rising)))) means uncounted unstamped count h in
      let scans = scanned db params from [] columns rising done.0 (unnoted collations from [] columns rising (overlay db []) params done.0 done.1.answer) in
      let every : AllByRecursion (λ r. passes params [] r ≡ true) stored = all_from _ stored (λ r there. refl) in
      let up = ascending_weaker _ _ (λ a b lower. rw lower refl) stored shaped.0 in
      let shows : done.0 ≡ map (shown_of params columns) stored =
      answers_rising db params from [] columns rising done.0 (λ r. true) scans every up ∙ ap (map (shown_of params columns)) (filter_all (λ r. true) stored (λ r there. refl)) in
      let cast_is : map (λ s. cast_row table s) done.0 ≡ map moved stored =
      ap (map (λ s. cast_row table s)) shows ∙ map-map (λ s. cast_row table s) (shown_of params columns) stored
      ∙ map_alike (λ r. cast_row table (shown_of params columns r)) moved stored (λ r there. (moves r there).0) in
      record { answer = done.0; change = done.2; made = filled db table done.0 (map moved stored) none (set_shaped moved stored (λ r there. (moves r there).1) shaped) cast_is }
