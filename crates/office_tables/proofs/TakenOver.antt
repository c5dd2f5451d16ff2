-- The rows of an older table are taken over into a newer one, and the older one is emptied: of any two tables.
use Rattle.office_tables.proofs.Common.{◌≡◌, ◌==◌, ℕ, List, [], ◌∷◌, ◌++◌, map, true, false, Some, Ok, IsTrue, slice_get, refl, sym, ap, subst, ◌∙◌, if◌then◌else◌, AllByRecursion, Row, cast_row, Binary, Collation, Insert, Delete, edit_of, Chosen, Given, Schema, Table, Term, col, rowid, Database, State, Executes, is_int, IsShaped, ids_of, Has, all_has, all_from, map-map, IsWhole, Sets, with_rows, Grows, Means, IsIdle, all_both, sets, none_pass, drops, rising, scan, as_program, noting, shown_of}
use Rattle.sqlite.specs.Source.TheVariants.{Query}
use Rattle.sqlite_trees.specs.declared.store.Shape.TheVariants as shape
use Rattle.sql_meaning.proofs.Copying.{copies}

-- ---- the two statements

-- the collations of eight columns
abbrev pub eight : List Collation
eight = Binary ∷ Binary ∷ Binary ∷ Binary ∷ Binary ∷ Binary ∷ Binary ∷ Binary ∷ []

module _ (schema : Schema) (acts : IsIdle schema) (older : Table) (place : ℕ) (is_older : slice_get schema.tables place ≡ Some older) (shaped : (db : Database) → IsWhole schema db → IsShaped shape.Table (db.trees older.tree)) where
  -- the newer table has each of its rows, as it was moved
  pub takes_over : (newer : Table) (at : ℕ) → slice_get schema.tables at ≡ Some newer → newer.is_counted ≡ false → newer.stamps.terms ≡ [] → (columns : List Term) (collations : List Collation) (moved : Row → Row) (text : List ℕ)
      → Means schema text (Insert at (Query (as_program (noting collations (scan older.tree [] columns rising)))))
      → ((db : Database) → IsWhole schema db → (r : Row) → Has (db.trees older.tree) r → IsTrue (is_int (rowid r)) → cast_row newer (shown_of [] columns r) ≡ moved r) → ((r : Row) → rowid (moved r) ≡ rowid r)
      → (old new : State) (count : ℕ) → IsWhole schema old.now → old.now.trees newer.tree ≡ [] → Executes text [] old new (Ok count) → Sets schema newer.tree (map moved (old.now.trees older.tree)) old.now new.now
  takes_over newer at is_newer uncounted unstamped columns collations moved text means moves numbers old new count whole none h =
      let is = shaped old.now whole in
      let done = copies text [] old new schema whole.schema_is at newer is_newer acts uncounted unstamped older.tree columns collations moved means is none
      (λ r there. (moves old.now whole r there (all_has _ (old.now.trees older.tree) r is.1 there), numbers r)) count h in
      sets schema old new (edit_of old.now.trees newer [] Chosen 0 done.answer) count _ done.change _ whole done.made

  -- it has no row any more
  pub empties : (text : List ℕ) → Means schema text (Delete place (as_program (scan older.tree [] (col 1 0 ∷ []) []))) → (old new : State) (count : ℕ) → IsWhole schema old.now
      → Executes text [] old new (Ok count) → Sets schema older.tree [] old.now new.now
  empties text means old new count whole h =
      let stored = old.now.trees older.tree in
      let done = drops text [] old new schema whole.schema_is place older is_older acts (shaped old.now whole) [] (col 1 0 ∷ []) (λ r. true) (all_from (λ r. true ≡ true) stored (λ r there. refl)) means (λ r. refl) count h in
      sets schema old new (edit_of old.now.trees older (ids_of done.answer) Given 0 []) count _ done.change [] whole (done.made ∙ none_pass (λ r. false) stored (λ r there. refl))

-- ---- both of them, once the newer table is made

all_front : {X : Type 0} (P : X → Type 0) (xs ys : List X) → AllByRecursion P (xs ++ ys) → AllByRecursion P xs
all_front P [] ys all = tt
all_front P (x ∷ xs) ys all = (all.0, all_front P xs ys all.1)

all_back : {X : Type 0} (P : X → Type 0) (xs ys : List X) → AllByRecursion P (xs ++ ys) → AllByRecursion P ys
all_back P [] ys all = all
all_back P (x ∷ xs) ys all = all_back P xs ys all.1

module _ (before after : Schema) (older newer : Table) (apart : (newer.tree == older.tree) ≡ false) (itself : (newer.tree == newer.tree) ≡ true)
    (d0 d1 : Database) (grown : Grows before after d0 d1) (added : newer ∷ [] ≡ grown.more) where
  -- the table that was made has no row
  pub starts_empty : d1.trees newer.tree ≡ []
  starts_empty = (subst (λ ts. AllByRecursion (λ (t : Table). d1.trees t.tree ≡ []) ts) (sym added) grown.empty).0

  module _ (moved : Row → Row) (d2 d3 : Database) (copied : Sets after newer.tree (map moved (d1.trees older.tree)) d1 d2) (emptied : Sets after older.tree [] d2 d3) where
    abbrev IsAfter : Table → Type 0
    IsAfter t = d3.trees t.tree ≡ with_rows older.tree [] (with_rows newer.tree (map moved (d1.trees older.tree)) d1.trees) t.tree

    each_after : AllByRecursion IsAfter (before.tables ++ grown.more)
    each_after = subst (AllByRecursion IsAfter) grown.tables (all_both (λ (t : Table) last first. last ∙ ap (λ (rows : List Row). if t.tree == older.tree then [] else rows) first) after.tables emptied.given_rows copied.given_rows)

    -- the typed rows of the newer table are those of the older one
    pub rows_taken : {Y : Type 0} (decode : Row → Y) → d1.trees older.tree ≡ d0.trees older.tree → map decode (d3.trees newer.tree) ≡ map (λ r. decode (moved r)) (d0.trees older.tree)
    rows_taken decode kept =
        let there : IsAfter newer = (subst (AllByRecursion IsAfter) (sym added) (all_back IsAfter before.tables grown.more each_after)).0 in
        let is : d3.trees newer.tree ≡ map moved (d1.trees older.tree) = rw (apart, itself) at there in
        ap (map decode) (is ∙ ap (map moved) kept) ∙ map-map decode moved (d0.trees older.tree)

    -- and every other table has the rows that it had
    pub others_kept : AllByRecursion (λ (t : Table). d3.trees t.tree ≡ with_rows older.tree [] (with_rows newer.tree (map moved (d1.trees older.tree)) d0.trees) t.tree) before.tables
    others_kept = all_both (λ (t : Table) now kept. now ∙ ap (λ (rows : List Row). if t.tree == older.tree then [] else if t.tree == newer.tree then map moved (d1.trees older.tree) else rows) kept)
        before.tables (all_front IsAfter before.tables grown.more each_after) grown.kept
