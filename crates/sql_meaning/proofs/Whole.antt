-- A change leaves the database whole.
use Rattle.sql_meaning.proofs.FirstLemmas.{◌≡◌, ◌≢◌, ◌==◌, true, false, ℕ, arith, List, [], ◌∷◌, sym, ap, subst, ◌∙◌, inl, inr, AllByRecursion, cases_Bool, cases_lt, Row, Table, Schema, Trees, Edit, edited, have_rowids, State, Database, Keeps, IsShaped, IsWhole, AreShaped, IsBlank, Sets, Changes, edited_shaped}
use Rattle.std.proofs.lemmas.Bool.Decides.{nat_tests}
use Rattle.sqlite_schema.specs.declared.schema.Constraint.{Constraint}
use Rattle.sqlite_trees.specs.declared.store.Shape.TheVariants as shape
pub use Rattle.sql_meaning.specs.Whole.{with_rows}

-- each row of a whole database keeps each rule of its schema
pub obeys_rule : {schema : Schema} {db : Database} → IsWhole schema db → (rule : Constraint) → Keeps rule schema db.trees
obeys_rule {schema} {db} whole rule = subst (λ s. Keeps rule s db.trees) whole.schema_is (whole.listed.obeys.rules rule)

one_or_other : (P : Type 0) (a b : ℕ) → (a ≡ b → P) → (a ≢ b → P) → P
one_or_other P a b same other = elim (cases_lt a b) [
  | inl below ↦ other (λ e. omega arith)
  | inr most ↦ elim (cases_lt b a) [ inl above ↦ other (λ e. omega arith) | inr least ↦ same (omega arith) ]
]

module _ (db next : Trees) (edit : Edit) (rows : next edit.table.tree ≡ edited db edit) where
  stays_shaped : have_rowids edit.news ≡ true → (tables : List Table) → AllByRecursion (λ t. t.tree ≢ edit.table.tree → next t.tree ≡ db t.tree) tables
      → AllByRecursion (λ t. IsShaped shape.Table (db t.tree)) tables → AllByRecursion (λ t. IsShaped shape.Table (next t.tree)) tables
  stays_shaped keyed [] others old = tt
  stays_shaped keyed (t ∷ tables) others old = (
    one_or_other (IsShaped shape.Table (next t.tree)) t.tree edit.table.tree
        (λ same. subst (λ rs. IsShaped shape.Table rs) (sym (ap next same ∙ rows)) (edited_shaped db edit keyed (subst (λ n. IsShaped shape.Table (db n)) same old.0)))
        (λ other. subst (λ rs. IsShaped shape.Table rs) (sym (others.0 other)) old.0),
    stays_shaped keyed tables others.1 old.1,
  )

  are_put : (tables : List Table) → AllByRecursion (λ t. t.tree ≢ edit.table.tree → next t.tree ≡ db t.tree) tables
      → AllByRecursion (λ t. next t.tree ≡ with_rows edit.table.tree (edited db edit) db t.tree) tables
  are_put [] others = tt
  are_put (t ∷ tables) others = (
    elim (cases_Bool (t.tree == edit.table.tree)) [
      | inl is ↦ rw is (ap next (same_tree t.tree edit.table.tree is) ∙ rows)
      | inr isnt ↦ rw isnt (others.0 (other_tree t.tree edit.table.tree isnt))
    ],
    are_put tables others.1,
  )
    where
      same_tree : (a b : ℕ) → (a == b) ≡ true → a ≡ b
      same_tree a b is = grind (arith, nat_tests)

      other_tree : (a b : ℕ) → (a == b) ≡ false → a ≢ b
      other_tree a b isnt same = grind (arith, nat_tests)

-- a change of one table leaves the database whole, and each table but that one as it was
module _ (schema : Schema) (old new : State) (edit : Edit) (count : ℕ) (written : List Row) (change : Changes schema old new edit count written) where
  pub whole_after : AreShaped schema old.now.trees → IsWhole schema new.now
  whole_after shaped = record {
    schema_is = change.schema_is;
    listed = change.listed;
    shaped = stays_shaped old.now.trees new.now.trees edit change.applies.rows change.applies.keyed schema.tables change.applies.tables shaped;
  }

  pub rows_after : AllByRecursion (λ t. new.now.trees t.tree ≡ with_rows edit.table.tree (edited old.now.trees edit) old.now.trees t.tree) schema.tables
  rows_after = are_put old.now.trees new.now.trees edit change.applies.rows schema.tables change.applies.tables

  -- the table has what the edit makes of its rows
  pub sets : (rows : List Row) → IsWhole schema old.now → edited old.now.trees edit ≡ rows → Sets schema edit.table.tree rows old.now new.now
  sets rows whole is = record {
    whole = whole_after whole.shaped;
    given_rows = subst (λ rs. AllByRecursion (λ t. new.now.trees t.tree ≡ with_rows edit.table.tree rs old.now.trees t.tree) schema.tables) is rows_after;
  }

-- where no table has a row, the rows ascend
pub blank_shaped : (schema : Schema) (db : Database) → IsBlank schema db → AreShaped schema db.trees
blank_shaped schema db blank = each schema.tables blank.empty
  where
    each : (tables : List Table) → AllByRecursion (λ t. db.trees t.tree ≡ []) tables → AllByRecursion (λ t. IsShaped shape.Table (db.trees t.tree)) tables
    each [] e = tt
    each (t ∷ tables) e = (subst (λ rows. IsShaped shape.Table rows) (sym e.0) (tt, tt), each tables e.1)
