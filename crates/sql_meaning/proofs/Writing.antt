-- What one statement makes of the rows of a table, for any schema without actions.
use Rattle.sql_meaning.proofs.Common.{◌≡◌, ◌/◌, ◌⊎◌, inl, inr, ℕ, List, [], length, slice_get, false, Option, Some, None, Ok, Err, Result, refl, sym, ap, subst, subst₂, fold, ℤ, ◌∙◌, append-nil, unwrap_or, Row, Term, Table, Schema, Insert, Update, Delete, Edit, edit_of, taken_by, Applies, Chosen, Given, Trees, Database, IsDatabase, Answers, IsSource, value_rows, State, mode_of, Executes, understood, ids_of, IsPlain, command_of, runs_as, one_step, Program}
use Rattle.sqlite.specs.Source.{Source}
use Rattle.sqlite.specs.Source.TheVariants.{Values}
use Rattle.sqlite.specs.Command.{Command}
use Rattle.sqlite.specs.Does.{Tally, OnRows, Concludes, AtPlace}
use Rattle.sqlite.specs.Rows.{Written, Task, Then, Inserts, Updates, Deletes, Edited, Counter, stamped, Counts, count_of, rowids_for, higher, last_id, Gives}
use Rattle.sqlite_schema.specs.declared.schema.Keys.TheVariants.{Enforced}
use Rattle.sqlite_rules.specs.Action.{works}

-- the edit was applied, the trees list the schema and keep its rules, and nothing else changed
pub record Changes (schema : Schema) (old new : State) (edit : Edit) (count : ℕ) (written : List Row) : Type 0 where
  pub counted : count ≡ length written
  pub applies : Applies schema Enforced old.now.trees edit new.now.trees
  pub schema_is : new.now.schema ≡ schema
  pub listed : IsDatabase new.now

pub same_value : {B E : Type 0} {a b : B} → ◌≡◌ {A = Result B E} (Ok a) (Ok b) → a ≡ b
same_value e = cc

-- a part that gave a value did not stop on the way
pub went : {B E R : Type 0} {b : B} {Stops : E → Type 0} → ((stop : E) × Stops stop × (Ok b ≡ Err stop)) ⊎ R → R
went (inl stopped) = absurd (let e = stopped.2 in cc)
went (inr on) = on

abbrev pub task_on : State → Schema → Table → Row → Task
task_on old schema table params = record { limit = old.step_limit; keys = Enforced; schema = schema; table = table; params = params }

abbrev pub IsIdle : Schema → Type 0
IsIdle schema = (tree : ℕ) (olds news : List Row) → works schema Enforced 0 tree olds news ≡ []

module _ (old new : State) (schema : Schema) (table : Table) (params : Row) (tally : Tally) where
  concluded : (w : Written) → Concludes (task_on old schema table params) (mode_of old) None w (Ok (tally, new.now))
      → (new.now ≡ record { schema = schema; trees = w.trees }) × (tally.rows ≡ Some (length w.rows))
  concluded w h =
      let tested = went h in
      let rows = went tested.2 in
      (ap (λ (p : Tally × Database). p.1) (same_value rows.2), ap (λ (p : Tally × Database). p.0.rows) (same_value rows.2))

counts_none : (task : Task) (counter : Option Row) (top : ℤ) (mid next : Trees) → task.table.is_counted ≡ false → Counts task mid counter top (Ok next) → next ≡ mid
counts_none task counter top mid next uncounted h = same_value (rw uncounted at h)

rowids_chosen : (table : Table) (top : ℤ) → table.is_counted ≡ false → rowids_for table top ≡ Chosen
rowids_chosen table top uncounted = rw uncounted refl

stamped_none : (table : Table) (params : Row) → table.stamps.terms ≡ [] → stamped table params ≡ params
stamped_none table params unstamped = rw unstamped (append-nil params)

module _ (old : State) (schema : Schema) (table : Table) (params : Row) (idle : IsIdle schema) (uncounted : table.is_counted ≡ false) (db : Trees) where
  -- the edit was made, and nothing is counted
  put : (rows : List Row) (w : Written)
      → Then (Counter (task_on old schema table params) db) (λ counter.
      let edit = edit_of db table [] (rowids_for table (count_of counter)) 0 rows in
      Then (Edited schema Enforced db edit) (λ mid. Then (Counts (task_on old schema table params) mid counter (fold higher (count_of counter) edit.news)) (λ next.
      Gives (record { trees = next; rows = edit.news; last = last_id edit.news })))) (Ok w)
      → Applies schema Enforced db (edit_of db table [] Chosen 0 rows) w.trees × (w.rows ≡ (edit_of db table [] Chosen 0 rows).news)
  put rows w h =
      let counter = went h in
      let mid = went counter.2 in
      let next = went mid.2 in
      let same : next.0 ≡ mid.0 = counts_none (task_on old schema table params) counter.0 _ mid.0 next.0 uncounted next.1 in
      let is : w.trees ≡ next.0 = ap (λ (it : Written). it.trees) (same_value next.2) in
      let edit = edit_of db table [] (rowids_for table (count_of counter.0)) 0 rows in
      let step = one_step schema Enforced db mid.0 edit (idle table.tree (taken_by db edit) edit.news) mid.1 in (
        subst₂ (λ how trees. Applies schema Enforced db (edit_of db table [] how 0 rows) trees) (rowids_chosen table (count_of counter.0) uncounted) (sym same ∙ sym is) step,
        ap (λ (it : Written). it.rows) (same_value next.2) ∙ ap (λ how. (edit_of db table [] how 0 rows).news) (rowids_chosen table (count_of counter.0) uncounted),
      )

  wrote : (from : Source) (w : Written) → table.stamps.terms ≡ [] → Inserts (task_on old schema table params) from db (Ok w)
      → (rows : List Row) × IsSource (record { schema = schema; trees = db }) params from rows × Applies schema Enforced db (edit_of db table [] Chosen 0 rows) w.trees × (w.rows ≡ (edit_of db table [] Chosen 0 rows).news)
  wrote from w unstamped h =
      let given = went h in
      let made = put given.0 w given.2 in
      (given.0, subst (λ p. IsSource (record { schema = schema; trees = db }) p from given.0) (stamped_none table params unstamped) given.1, made.0, made.1)

finished : (old new : State) (schema : Schema) (table : Table) (params : Row) (tally : Tally) (edit : Edit) (w : Written) (count : ℕ) (rows : List Row)
    → Applies schema Enforced old.now.trees edit w.trees → w.rows ≡ rows → count ≡ unwrap_or tally.rows 0 → IsDatabase new.now
    → Concludes (task_on old schema table params) (mode_of old) None w (Ok (tally, new.now)) → Changes schema old new edit count rows
finished old new schema table params tally edit w count rows applies shown counted listed h =
    let done = concluded old new schema table params tally w h in record {
      counted = counted ∙ ap (λ o. unwrap_or o 0) done.1 ∙ ap length shown;
      applies = subst (λ (d : Database). Applies schema Enforced old.now.trees edit d.trees) (sym done.0) applies;
      schema_is = ap (λ (d : Database). d.schema) done.0;
      listed = listed;
    }

-- the text is this command, under the schema
pub record Means (schema : Schema) (text : List ℕ) (command : Command) : Type 0 where
  pub is : command_of (understood schema text) ≡ command
  pub plain : IsPlain (understood schema text)

module _ (text : List ℕ) (params : Row) (old new : State) (schema : Schema) (has : old.now.schema ≡ schema) (at : ℕ) (table : Table)
    (is_table : slice_get schema.tables at ≡ Some table) (idle : IsIdle schema) where
  -- the command ran on the rows of that table
  on_table : (command : Command) (tally : Tally) → AtPlace (λ t. OnRows (task_on old old.now.schema t params) (mode_of old) None command old.now.trees) (slice_get old.now.schema.tables at) (Ok (tally, new.now))
      → OnRows (task_on old schema table params) (mode_of old) None command old.now.trees (Ok (tally, new.now))
  on_table command tally h =
      subst (λ o. AtPlace (λ t. OnRows (task_on old schema t params) (mode_of old) None command old.now.trees) o (Ok (tally, new.now))) is_table
      (subst (λ s. AtPlace (λ t. OnRows (task_on old s t params) (mode_of old) None command old.now.trees) (slice_get s.tables at) (Ok (tally, new.now))) has h)

  -- INSERT: each row of the source, of VALUES or of a query, comes in
  pub inserts_from : (from : Source) → Means schema text (Insert at from) → table.is_counted ≡ false → table.stamps.terms ≡ [] → (count : ℕ) → Executes text params old new (Ok count)
      → (rows : List Row) × IsSource (record { schema = schema; trees = old.now.trees }) params from rows × Changes schema old new (edit_of old.now.trees table [] Chosen 0 rows) count (edit_of old.now.trees table [] Chosen 0 rows).news
  inserts_from from means uncounted unstamped count h =
      let command = Insert at from in
      let w = runs_as text params old new schema has command means.is means.plain count h in
      let ran : OnRows (task_on old schema table params) (mode_of old) None command old.now.trees (Ok (w.tally, new.now)) = on_table command w.tally w.changed in
      let made = went ran in
      let given = wrote old schema table params idle uncounted old.now.trees from made.0 unstamped made.1 in
      let edit = edit_of old.now.trees table [] Chosen 0 given.0 in
      (given.0, given.1, finished old new schema table params w.tally edit made.0 count edit.news given.2 given.3 w.counted w.sound made.2)

  pub inserts : (terms : List Term) (width : ℕ) → Means schema text (Insert at (Values terms width)) → table.is_counted ≡ false → table.stamps.terms ≡ []
      → (count : ℕ) → Executes text params old new (Ok count)
      → Changes schema old new (edit_of old.now.trees table [] Chosen 0 (value_rows params width (length terms / width) terms)) count (edit_of old.now.trees table [] Chosen 0 (value_rows params width (length terms / width) terms)).news
  inserts terms width means uncounted unstamped count h =
      let given = inserts_from (Values terms width) means uncounted unstamped count h in
      subst (λ rows. Changes schema old new (edit_of old.now.trees table [] Chosen 0 rows) count (edit_of old.now.trees table [] Chosen 0 rows).news) given.1.1 given.2

  -- UPDATE: each row that the query answers replaces the row whose rowid it has
  pub updates : (q : Program) → Means schema text (Update at q) → (count : ℕ) → Executes text params old new (Ok count)
      → (rows : List Row) × Answers (record { schema = schema; trees = old.now.trees }) q params rows × Changes schema old new (edit_of old.now.trees table (ids_of rows) Given 1 rows) count ((edit_of old.now.trees table (ids_of rows) Given 1 rows).news)
  updates q means count h =
      let command = Update at q in
      let w = runs_as text params old new schema has command means.is means.plain count h in
      let ran : OnRows (task_on old schema table params) (mode_of old) None command old.now.trees (Ok (w.tally, new.now)) = on_table command w.tally w.changed in
      let wrote = went ran in
      let made = updated_by wrote.0 wrote.1 in
      let rows = made.0 in
      (rows, made.1, finished old new schema table params w.tally (edit_of old.now.trees table (ids_of rows) Given 1 rows) wrote.0 count ((edit_of old.now.trees table (ids_of rows) Given 1 rows).news) made.2 made.3 w.counted w.sound wrote.2)
    where
      updated_by : (w : Written) → Updates (task_on old schema table params) q params old.now.trees (Ok w)
          → (rows : List Row) × Answers (record { schema = schema; trees = old.now.trees }) q params rows × Applies schema Enforced old.now.trees (edit_of old.now.trees table (ids_of rows) Given 1 rows) w.trees × (w.rows ≡ (edit_of old.now.trees table (ids_of rows) Given 1 rows).news)
      updated_by w h =
          let rows = went h in
          let next = went rows.2 in
          let edit = edit_of old.now.trees table (ids_of rows.0) Given 1 rows.0 in
          let step = one_step schema Enforced old.now.trees next.0 edit (idle table.tree (taken_by old.now.trees edit) edit.news) next.1 in
          (rows.0, rows.1, subst (λ trees. Applies schema Enforced old.now.trees edit trees) (sym (ap (λ (it : Written). it.trees) (same_value next.2))) step, ap (λ (it : Written). it.rows) (same_value next.2))

  -- DELETE: each row that the query answers is taken out
  pub deletes : (q : Program) → Means schema text (Delete at q) → (count : ℕ) → Executes text params old new (Ok count)
      → (rows : List Row) × Answers (record { schema = schema; trees = old.now.trees }) q params rows × Changes schema old new (edit_of old.now.trees table (ids_of rows) Given 0 []) count (taken_by old.now.trees (edit_of old.now.trees table (ids_of rows) Given 0 []))
  deletes q means count h =
      let command = Delete at q in
      let w = runs_as text params old new schema has command means.is means.plain count h in
      let ran : OnRows (task_on old schema table params) (mode_of old) None command old.now.trees (Ok (w.tally, new.now)) = on_table command w.tally w.changed in
      let wrote = went ran in
      let made = deleted_by wrote.0 wrote.1 in
      let rows = made.0 in
      (rows, made.1, finished old new schema table params w.tally (edit_of old.now.trees table (ids_of rows) Given 0 []) wrote.0 count (taken_by old.now.trees (edit_of old.now.trees table (ids_of rows) Given 0 [])) made.2 made.3 w.counted w.sound wrote.2)
    where
      deleted_by : (w : Written) → Deletes (task_on old schema table params) q old.now.trees (Ok w)
          → (rows : List Row) × Answers (record { schema = schema; trees = old.now.trees }) q params rows × Applies schema Enforced old.now.trees (edit_of old.now.trees table (ids_of rows) Given 0 []) w.trees × (w.rows ≡ taken_by old.now.trees (edit_of old.now.trees table (ids_of rows) Given 0 []))
      deleted_by w h =
          let rows = went h in
          let next = went rows.2 in
          let edit = edit_of old.now.trees table (ids_of rows.0) Given 0 [] in
          let step = one_step schema Enforced old.now.trees next.0 edit (idle table.tree (taken_by old.now.trees edit) edit.news) next.1 in
          (rows.0, rows.1, subst (λ trees. Applies schema Enforced old.now.trees edit trees) (sym (ap (λ (it : Written). it.trees) (same_value next.2))) step, ap (λ (it : Written). it.rows) (same_value next.2))
