-- The version in the row of the office.
use Rattle.office_tables.proofs.FirstLemmas.{◌≡◌, ℕ, ℤ, pos, [], ◌∷◌, map, Ok, IsTrue, refl, ap, ◌∙◌, inr, if◌then◌else◌, AllByRecursion, Null, Int, Row, column, cast, cast_row, edit_of, Given, Schema, rowid, Database, State, Executes, Datatype, NotNull, is_int, ids_of, all_has, int_is, int_at, IsWhole, Sets, typed_at, all_both, decoded, cast_null, cast_int, obeys_rule, sets, revises, by_number, has_number, each_numbered, few_numbered, OfficeRow, is_office_row, office_table, office_tree, office_in, AllRows, all_in_version, in_version, BecomesAt, rows_at, schema_at, of_office, of_callers, of_classes, of_collections, of_deposits, of_files, of_contents, of_holds, of_rules, keeps_int, List, codes, understood, everything, Term, lit, col, Update, scan, as_program, Means, Newest, idle_at, still_empty, with_rows}
use Rattle.sqlite.specs.Kind.TheVariants as kind

abbrev newest : Schema
newest = schema_at Newest

abbrev pub version_text : List ℕ
version_text = codes "UPDATE office SET version = ?2 WHERE id = ?1"

abbrev versioned : List Term
versioned = col 1 0 ∷ col 1 0 ∷ lit Null ∷ col 0 1 ∷ col 1 3 ∷ col 1 4 ∷ []

version_means : Means newest version_text (Update 0 (as_program (scan office_tree by_number versioned [])))
unfolding understood everything
version_means = record { is = refl; plain = (refl, refl) }

abbrev IsStored : Row → Type 0
IsStored r = (column r 2 ≡ Int (int_at r 2)) × (column r 3 ≡ Int (int_at r 3)) × (column r 4 ≡ Int (int_at r 4))

stored_rows : (db : Database) → IsWhole newest db → AllByRecursion IsStored (db.trees office_tree)
stored_rows db whole = all_both (λ r t p.
    let at = typed_at newest db.trees office_table r t p in
    (at 1 refl, at 2 refl, at 3 refl)) (db.trees office_tree) (of_office (obeys_rule whole Datatype)) (of_office (obeys_rule whole NotNull))

abbrev set_to : ℤ → Row → Row
set_to version r = rowid r ∷ Null ∷ Int version ∷ column r 3 ∷ column r 4 ∷ []

cast_set : (version : ℤ) (r : Row) → IsStored r → IsTrue (is_int (rowid r)) → cast_row office_table (rowid r ∷ Null ∷ Int version ∷ column r 3 ∷ column r 4 ∷ []) ≡ set_to version r
cast_set version r it whole =
    let casts : cast kind.Integer (rowid r) ≡ rowid r = keeps_int (rowid r) (inr (int_is (rowid r) whole)) in
    rw (casts, cast_null, cast_int version, keeps_int (column r 3) (inr it.1), keeps_int (column r 4) (inr it.2)) refl

pub sets_version : (old new : State) (version : ℤ) (rows : AllRows) (count : ℕ) → BecomesAt Newest old.now rows → Executes version_text (Int (pos 1) ∷ Int version ∷ []) old new (Ok count)
    → BecomesAt Newest new.now (all_in_version version rows)
sets_version old new version rows count was h =
    let db = old.now.trees in
    let whole = was.office.whole in
    let shaped = of_office whole.shaped in
    let done = revises version_text (Int (pos 1) ∷ Int version ∷ []) old new newest whole.schema_is 0 office_table refl (idle_at Newest) shaped by_number versioned
    (has_number (pos 1)) (each_numbered (pos 1) (Int version ∷ []) (db office_tree) shaped) version_means (set_to version) (few_numbered (pos 1) (db office_tree) shaped)
    (λ r there. (refl, cast_set version r (all_has IsStored (db office_tree) r (stored_rows old.now whole) there) (all_has _ (db office_tree) r shaped.1 there), refl)) count h in
    let rows_set = map (λ r. if has_number (pos 1) r then set_to version r else r) (db office_tree) in
    let changed : Sets newest office_tree rows_set old.now new.now = sets newest old new (edit_of db office_table (ids_of done.answer) Given 1 done.answer) count _ done.change _ whole done.made in
    let e = changed.given_rows in
    let typed : map office_in (new.now.trees office_tree) ≡ map (in_version version) (map office_in (db office_tree)) =
    ap (map office_in) (of_office e) ∙ decoded office_in (has_number (pos 1)) (set_to version) is_office_row (λ (o : OfficeRow). record o { version = version }) (λ r. refl) (λ r. refl) (db office_tree) in
    let same : rows_at Newest new.now ≡ all_in_version version (rows_at Newest old.now) = rw (typed, of_callers e, of_classes e, of_collections e, of_deposits e, of_files e, of_contents e, of_holds e, of_rules e) refl in
    record {
      office = record { whole = changed.whole; emptied = still_empty new.now (record old.now { trees = with_rows office_tree rows_set db }) e was.office.emptied };
      are = same ∙ ap (all_in_version version) was.are;
    }
