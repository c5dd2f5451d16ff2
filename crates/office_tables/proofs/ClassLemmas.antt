-- What the statements on classes do to the rows of an office.
use Rattle.office_tables.proofs.FirstLemmas.{IsTrue, if◌then◌else◌, ◌≡◌, ◌≢◌, ◌⊎◌, ℕ, ℤ, List, [], ◌∷◌, map, filter, slice_get, option_map, true, Ok, refl, ap, subst, sym, ◌∙◌, inl, inr, arith, AllByRecursion, list_any, cases_Bool, map-append, Null, Int, Text, Row, column, id_in, edit_of, Chosen, Given, rowid, cast, cast_row, Database, State, Shown, Executes, Datatype, NotNull, Unique, Has, ids_of, all_has, all_from, int_is, is_int, int_at, bytes_at, inserts, updates, as_program, scan, shown_of, has_text, by_text, each_passes, few_named, typed_at, all_both, appended, decoded, counted, cast_null, cast_int, none_revised, obeys_rule, revises, office_schema, class_table, class_tree, Tables, ClassRow, is_class, class_named, with_years, with_new_class, with_class, IsOffice, Becomes, tables_of, class_in, HasSameContents, of_classes, idle, becomes, same_contents, years_text, revise_text, revised_columns, add_class_text, class_meanings, all_given, finds_named}
use Rattle.sqlite.specs.Kind.TheVariants as kind

-- a stored class, as the rules of its table leave it
abbrev pub IsClassRow : Row → Type 0
IsClassRow r = (column r 1 ≡ Text (bytes_at r 1)) × (column r 2 ≡ Int (int_at r 2))

pub class_rows : (db : Database) → IsOffice db → AllByRecursion IsClassRow (db.trees class_tree)
class_rows db office = all_both (λ r typed present.
    let at = typed_at office_schema db.trees class_table r typed present in
    (at 0 refl, at 1 refl)) (db.trees class_tree) (of_classes (obeys_rule office.whole Datatype)) (of_classes (obeys_rule office.whole NotNull))

-- what is known of the table: each name is a text, and at most one class has it
module _ (db : Database) (office : IsOffice db) (name : List ℕ) where
  named : AllByRecursion (λ r. column r 1 ≡ Text (bytes_at r 1)) (db.trees class_tree)
  named = all_from _ (db.trees class_tree) (λ r there. (all_has IsClassRow (db.trees class_tree) r (class_rows db office) there).0)

  few : (filter (has_text 1 name) (db.trees class_tree) ≡ []) ⊎ ((r : Row) × Has (db.trees class_tree) r × (has_text 1 name r ≡ true) × (filter (has_text 1 name) (db.trees class_tree) ≡ r ∷ []))
  few = few_named 1 (db.trees class_tree) (of_classes office.whole.shaped) named (of_classes (obeys_rule office.whole Unique)) name

-- ---- the years of a class

pub finds_years : (old new : State) (name : List ℕ) (rows : List Row) → IsOffice old.now → Shown years_text (Text name ∷ []) old new rows
    → (new.now ≡ old.now) × (option_map (λ (c : ClassRow). c.years) (class_named name (tables_of old.now).classes) ≡ option_map (λ row. int_at row 0) (slice_get rows 0))
finds_years old new name rows office h =
    finds_named old new rows office 1 class_meanings.asks_years name (named old.now office name) (few old.now office name) class_in (is_class name) (λ r. refl) (λ (c : ClassRow). c.years) (λ row. int_at row 0) (λ r. refl) h

-- ---- a new class

pub adds_class : (old new : State) (name : List ℕ) (years : ℤ) (count : ℕ) → IsOffice old.now → Executes add_class_text (Text name ∷ Int years ∷ []) old new (Ok count)
    → Becomes new.now (with_new_class name years (tables_of old.now))
adds_class old new name years count office h =
    let params : Row = Text name ∷ Int years ∷ [] in
    let db = old.now.trees in
    let source : Row = Null ∷ Text name ∷ Int years ∷ [] in
    let edit = edit_of db class_table [] Chosen 0 (source ∷ []) in
    let done = inserts add_class_text params old new office_schema office.whole.schema_is 3 class_table refl idle (all_given 2) 3 class_meanings.add_class_means refl refl count h in
    let cast_is : cast_row class_table source ≡ Null ∷ Text name ∷ Int years ∷ [] = rw (cast_null, cast_int years) refl in
    let end = appended db class_table source (Text name ∷ Int years ∷ []) (of_classes office.whole.shaped) cast_is in
    becomes old new edit count edit.news office refl done _ (ap (λ rows. record (tables_of old.now) { classes = rows }) (ap (map class_in) end ∙ map-append class_in (db class_tree) _))

pub adds_class_same : (old new : State) (name : List ℕ) (years : ℤ) (count : ℕ) → IsOffice old.now → Executes add_class_text (Text name ∷ Int years ∷ []) old new (Ok count) → HasSameContents old.now new.now
adds_class_same old new name years count office h =
    same_contents old new _ count _ (inserts add_class_text (Text name ∷ Int years ∷ []) old new office_schema office.whole.schema_is 3 class_table refl idle (all_given 2) 3 class_meanings.add_class_means refl refl count h) refl refl

-- ---- other years

cast_set : (years : ℤ) (r : Row) → IsClassRow r → IsTrue (is_int (rowid r)) → cast_row class_table (rowid r ∷ column r 1 ∷ Int years ∷ []) ≡ rowid r ∷ Text (bytes_at r 1) ∷ Int years ∷ []
cast_set years r it whole =
    let id : rowid r ≡ Int (id_in (rowid r)) = int_is (rowid r) whole in
    let casts : cast kind.Integer (rowid r) ≡ rowid r = subst (λ v. cast kind.Integer v ≡ v) (sym id) (cast_int (id_in (rowid r))) in
    rw (casts, it.0, cast_int years) refl

pub revises_class : (old new : State) (name : List ℕ) (years : ℤ) (count : ℕ) → IsOffice old.now → Executes revise_text (Text name ∷ Int years ∷ []) old new (Ok count)
    → Becomes new.now (with_years name years (tables_of old.now)) × (count ≡ (if list_any (is_class name) (tables_of old.now).classes then 1 else 0))
revises_class old new name years count office h =
    let db = old.now.trees in
    let shaped = of_classes office.whole.shaped in
    let keep = has_text 1 name in
    let set : Row → Row = λ r. rowid r ∷ Text (bytes_at r 1) ∷ Int years ∷ [] in
    let done = revises revise_text (Text name ∷ Int years ∷ []) old new office_schema office.whole.schema_is 3 class_table refl idle shaped (by_text 1) revised_columns
    keep (each_passes 1 name (Int years ∷ []) (db class_tree) (named old.now office name)) class_meanings.revise_means set (few old.now office name)
    (λ r there. (refl, cast_set years r (all_has IsClassRow (db class_tree) r (class_rows old.now office) there) (all_has _ (db class_tree) r shaped.1 there), refl)) count h in
    let edit = edit_of db class_table (ids_of done.answer) Given 1 done.answer in
    let set_is = decoded class_in keep set (is_class name) (λ c. record c { years = years }) (λ r. refl) (λ r. refl) (db class_tree) in (
      becomes old new edit count edit.news office refl done.change _ (ap (λ rows. record (tables_of old.now) { classes = rows }) (ap (map class_in) done.made ∙ set_is)),
      done.change.counted ∙ counted db class_table done.answer keep (shown_of (Text name ∷ Int years ∷ []) revised_columns) class_in (is_class name) (λ r. refl) (few old.now office name) done.shows,
    )

pub revises_class_same : (old new : State) (name : List ℕ) (years : ℤ) (count : ℕ) → IsOffice old.now → Executes revise_text (Text name ∷ Int years ∷ []) old new (Ok count) → HasSameContents old.now new.now
revises_class_same old new name years count office h =
    same_contents old new _ count _ (updates revise_text (Text name ∷ Int years ∷ []) old new office_schema office.whole.schema_is 3 class_table refl idle (as_program (scan class_tree (by_text 1) revised_columns [])) class_meanings.revise_means count h).2 refl refl

-- where the UPDATE counted none, the INSERT is left to do; where it counted one, nothing is
pub puts_class : (t : Tables) (name : List ℕ) (years : ℤ) (mid : Database) (count : ℕ) → Becomes mid (with_years name years t) → count ≡ (if list_any (is_class name) t.classes then 1 else 0)
    → (count ≡ 0 → (new : Database) → Becomes new (with_new_class name years (tables_of mid)) → Becomes new (with_class name years t)) × (count ≢ 0 → Becomes mid (with_class name years t))
puts_class t name years mid count revised counts = elim (cases_Bool (list_any (is_class name) t.classes)) [
  | inl some ↦
      let one : count ≡ 1 = rw some at counts in
      (λ none. absurd (omega arith), λ _. rw some revised)
  | inr none ↦
      let zero_is : count ≡ 0 = rw none at counts in
      let same : tables_of mid ≡ t = revised.are ∙ ap (λ cs. record t { classes = cs }) (none_revised (is_class name) (λ c. record c { years = years }) t.classes none) in
      (λ _ new added. rw none (subst (λ u. Becomes new (with_new_class name years u)) same added), λ some. absurd (some zero_is))
]
