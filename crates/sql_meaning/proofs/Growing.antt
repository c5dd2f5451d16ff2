-- What CREATE TABLE and CREATE INDEX add to a database, with the rows that it has.
use Rattle.sql_meaning.proofs.FirstLemmas.{◌≡◌, ◌⊎◌, ℕ, List, [], ◌∷◌, ◌++◌, Ok, false, None, Some, Option, slice_get, refl, sym, ap, subst, ◌∙◌, inl, inr, append_assoc, append-nil, AllByRecursion, Row, CreateTable, CreateIndex, Table, Schema, Trees, Database, IsDatabase, State, Writes, Executes, mode_of, runs_as, all_weaker, all-append, all_has, all_from, has_right, IsShaped, MakesTable, MakesIndex, Grows, went, same_value}
use Rattle.sqlite.specs.Change.{created, indexed, next_tree, KeepsRows}
use Rattle.sqlite.specs.Does.{Tally, lacks_sequence, AtPlace, Defines, MakesIndex as Makes}
use Rattle.sqlite_catalog.proofs.AlterLemmas.{rows_trans, rows_fewer}
use Rattle.sqlite_trees.specs.declared.store.Shape.TheVariants as shape
use Rattle.sql_meaning.proofs.Typed.{all_both}

-- what holds of the rows of each table before, and of no rows, holds of the rows of each table after
pub each_grown : (P : List Row → Type 0) → P [] → (tables more all : List Table) (old new : Trees) → all ≡ tables ++ more → KeepsRows tables old new → AllByRecursion (λ t. new t.tree ≡ []) more
    → AllByRecursion (λ t. P (old t.tree)) tables → AllByRecursion (λ t. P (new t.tree)) all
each_grown P none tables more all old new are kept empty each =
    let there : AllByRecursion (λ t. P (new t.tree)) tables = all_both (λ t same was. subst P (sym same) was) tables kept each in
    let added : AllByRecursion (λ t. P (new t.tree)) more = all_weaker _ _ (λ t is. subst P (sym is) none) more empty in
    subst (λ ts. AllByRecursion (λ (t : Table). P (new t.tree)) ts) (sym are) (all-append (λ (t : Table). P (new t.tree)) tables more there added)

-- ---- one text

-- the trees list the later schema, so what was whole is whole again
grown_by : (before after : Schema) (old new : Database) (more : List Table) → new.schema ≡ after → IsDatabase new → after.tables ≡ before.tables ++ more → KeepsRows before.tables old.trees new.trees
    → AllByRecursion (λ t. new.trees t.tree ≡ []) more → Grows before after old new
grown_by before after old new more schema_is listed tables kept empty = record {
  schema_is = schema_is;
  whole = λ was. record { schema_is = schema_is; listed = listed; shaped = each_grown (IsShaped shape.Table) (tt, tt) before.tables more after.tables old.trees new.trees tables kept empty was.shaped };
  more = more;
  tables = tables;
  kept = kept;
  empty = empty;
}

grows_table : (schema : Schema) (text : List ℕ) (after : Schema) → MakesTable schema text after → (old new : State) (count : ℕ) → old.now.schema ≡ schema → Executes text [] old new (Ok count)
    → Grows schema after old.now new.now
grows_table schema text after makes old new count has h =
    let w = subst (λ t. Writes old new None CreateTable t [] count) makes.statement (runs_as text [] old new schema has CreateTable makes.command makes.plain count h) in
    let all = went w.changed in
    let first = went all.1 in
    let made = first.1 in
    let both : Ok made.table ≡ Ok makes.table = sym made.defined ∙ makes.defined in
    let same : made.table ≡ makes.table = same_value both in
    let schema_is : first.0.schema ≡ after = made.is ∙ ap (λ s. created s made.table) has ∙ ap (created schema) same ∙ makes.is in
    let plain : lacks_sequence first.0.schema ≡ false = ap lacks_sequence schema_is ∙ makes.uncounted in
    let now : new.now ≡ first.0 = ap (λ (p : Tally × Database). p.1) (same_value all.2) ∙ same_value (rw plain at first.2) in
    let fresh : first.0.trees (next_tree schema) ≡ [] = subst (λ s. first.0.trees (next_tree s) ≡ []) has made.empty in
    let others : KeepsRows schema.tables old.now.trees first.0.trees = subst (λ s. KeepsRows s.tables old.now.trees first.0.trees) has made.others in
    let it : Table = record makes.table { tree = next_tree schema } in
    subst (λ d. Grows schema after old.now d) (sym now)
    (grown_by schema after old.now first.0 (it ∷ []) schema_is (subst IsDatabase now w.sound) (sym (ap (λ (s : Schema). s.tables) makes.is)) others (fresh, tt))

grows_index : (schema : Schema) (text : List ℕ) (after : Schema) → MakesIndex schema text after → (old new : State) (count : ℕ) → old.now.schema ≡ schema → Executes text [] old new (Ok count)
    → Grows schema after old.now new.now
grows_index schema text after makes old new count has h =
    let w = subst (λ t. Writes old new None (CreateIndex makes.at) t [] count) makes.statement (runs_as text [] old new schema has (CreateIndex makes.at) makes.command makes.plain count h) in
    let found : slice_get old.now.schema.tables makes.at ≡ Some makes.table = ap (λ (s : Schema). slice_get s.tables makes.at) has ∙ makes.place in
    let all = went (subst (λ (o : Option Table). AtPlace (λ t. Defines (mode_of old) (Makes text old.now t)) o (Ok (w.tally, new.now))) found w.changed) in
    let made = all.1 in
    let both : Ok made.index ≡ Ok makes.index = sym made.defined ∙ makes.defined in
    let same : made.index ≡ makes.index = same_value both in
    let schema_is : all.0.schema ≡ after = made.is ∙ ap (λ s. indexed s makes.table made.index) has ∙ ap (indexed schema makes.table) same ∙ makes.is in
    let now : new.now ≡ all.0 = ap (λ (p : Tally × Database). p.1) (same_value all.2) in
    let others : KeepsRows schema.tables old.now.trees all.0.trees = subst (λ s. KeepsRows s.tables old.now.trees all.0.trees) has made.rows in
    subst (λ d. Grows schema after old.now d) (sym now)
    (grown_by schema after old.now all.0 [] schema_is (subst IsDatabase now w.sound) (sym (ap (λ (s : Schema). s.tables) makes.is) ∙ sym (append-nil schema.tables)) others tt)

pub grows_one : (schema : Schema) (text : List ℕ) (after : Schema) → MakesTable schema text after ⊎ MakesIndex schema text after → (old new : State) (count : ℕ) → old.now.schema ≡ schema → Executes text [] old new (Ok count)
    → Grows schema after old.now new.now
grows_one schema text after (inl makes) old new count has h = grows_table schema text after makes old new count has h
grows_one schema text after (inr makes) old new count has h = grows_index schema text after makes old new count has h

-- ---- texts in turn

-- before the first text nothing was added
pub grown_none : (schema : Schema) (db : Database) → db.schema ≡ schema → Grows schema schema db db
grown_none schema db has =
    record { schema_is = has; whole = λ was. was; more = []; tables = sym (append-nil schema.tables); kept = all_from _ schema.tables (λ t there. refl); empty = tt }

-- what is added to what was added
pub grows_then : (before mid after : Schema) (first old new : Database) → Grows before mid first old → Grows mid after old new → Grows before after first new
grows_then before mid after first old new earlier later =
    let both : KeepsRows (before.tables ++ earlier.more) old.trees new.trees = subst (λ ts. KeepsRows ts old.trees new.trees) earlier.tables later.kept in
    let still : AllByRecursion (λ t. new.trees t.tree ≡ []) earlier.more =
    all_from _ earlier.more (λ t there. all_has _ (before.tables ++ earlier.more) t both (has_right before.tables earlier.more t there) ∙ all_has _ earlier.more t earlier.empty there) in
    record {
      schema_is = later.schema_is;
      whole = λ was. later.whole (earlier.whole was);
      more = earlier.more ++ later.more;
      tables = later.tables ∙ ap (λ ts. ts ++ later.more) earlier.tables ∙ append_assoc before.tables earlier.more later.more;
      kept = rows_trans before.tables first.trees old.trees new.trees earlier.kept (rows_fewer before.tables earlier.more old.trees new.trees both);
      empty = all-append (λ (t : Table). new.trees t.tree ≡ []) earlier.more later.more still later.empty;
    }

-- one text more
pub grows_next : (before schema : Schema) (text : List ℕ) (after : Schema) → MakesTable schema text after ⊎ MakesIndex schema text after → (first : Database) (old new : State) (count : ℕ)
    → Grows before schema first old.now → Executes text [] old new (Ok count) → Grows before after first new.now
grows_next before schema text after makes first old new count grown h = grows_then before schema after first old.now new.now grown (grows_one schema text after makes old new count grown.schema_is h)
