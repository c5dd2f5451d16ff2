-- The first row of an office whose tables were just made.
use Rattle.office_tables.proofs.FirstLemmas.{IsTrue, ◌≡◌, ℕ, ℤ, pos, [], ◌∷◌, map, Ok, refl, sym, ap, subst₂, ◌∙◌, Null, Int, Row, edit_of, edited, Chosen, Trees, put_row, Database, cast_row, State, Executes, IsBlank, inserts, blank_shaped, inserted, cast_null, cast_int, office_schema, office_table, OfficeRow, Tables, empty_office, IsMade, IsMadeLeft, IsDistinct, int_at, AreStoredOnce, StoresOnce, Becomes, tables_of, content_in, office_in, idle, becomes_shaped, of_emptied, of_callers, of_classes, of_collections, of_contents, of_deposits, of_files, of_holds, of_office, of_rules, same_contents, stored_once}
use Rattle.office_tables.proofs.CreateTexts.{start_text, start_terms, start_means}

pub starts_office : (old new : State) (version deposits holds : ℤ) (count : ℕ) → IsBlank office_schema old.now → Executes start_text (Int version ∷ Int deposits ∷ Int holds ∷ []) old new (Ok count)
    → Becomes new.now (empty_office version deposits holds)
starts_office old new version deposits holds count blank h =
    let params : Row = Int version ∷ Int deposits ∷ Int holds ∷ [] in
    let db = old.now.trees in
    let columns : Row = Null ∷ params in
    let source : Row = Int (pos 1) ∷ columns in
    let edit = edit_of db office_table [] Chosen 0 (source ∷ []) in
    let done = inserts start_text params old new office_schema blank.schema_is 0 office_table refl idle start_terms 5 start_means refl refl count h in
    let cast_is : cast_row office_table source ≡ source = rw (cast_null, cast_int (pos 1), cast_int version, cast_int deposits, cast_int holds) refl in
    let e = blank.empty in
    let alone : edited db edit ≡ source ∷ [] = inserted db office_table source columns (pos 1) cast_is ∙ ap (put_row source) (of_office e) in
    let row : OfficeRow = record { id = pos 1; version = version; max_deposits = deposits; max_holds = holds } in
    let made : Becomes new.now (record (tables_of old.now) { office = row ∷ [] }) = becomes_shaped old new edit count edit.news (blank_shaped office_schema old.now blank) (of_emptied (λ tree. db tree ≡ []) e) refl done _ (ap (λ rows. record (tables_of old.now) { office = rows }) (ap (map office_in) alone)) in
    let rest : record (tables_of old.now) { office = row ∷ [] } ≡ empty_office version deposits holds = rw (of_callers e, of_classes e, of_collections e, of_deposits e, of_files e, of_holds e, of_rules e) refl in
    record { office = made.office; are = made.are ∙ rest }

-- where no table has a row, contents are stored once
blank_once : (db : Database) → IsBlank office_schema db → StoresOnce db
unfolding IsDistinct
blank_once db blank =
    subst₂ AreStoredOnce (sym (ap (map (λ (row : Row). int_at row 3)) (of_files blank.empty))) (sym (ap (map content_in) (of_contents blank.empty))) (record { once = tt; marked = tt; used = tt })

pub starts_once : (old new : State) (version deposits holds : ℤ) (count : ℕ) → IsBlank office_schema old.now → Executes start_text (Int version ∷ Int deposits ∷ Int holds ∷ []) old new (Ok count) → StoresOnce new.now
starts_once old new version deposits holds count blank h =
    stored_once (same_contents old new _ count _ (inserts start_text (Int version ∷ Int deposits ∷ Int holds ∷ []) old new office_schema blank.schema_is 0 office_table refl idle start_terms 5 start_means refl refl count h) refl refl) (blank_once old.now blank)

-- what a crash leaves of an office that was made and committed
pub leaves_made : (end : State) (tables : Tables) → ((db : Trees) → IsTrue end.is_open → end.may_leave db → db ≡ end.committed.trees) → IsMade end tables
    → (db : Trees) → end.may_leave db → IsMadeLeft tables db
leaves_made end tables settled made db left = (end.now, made.becomes, made.once, settled db made.is_open left ∙ ap (λ (d : Database). d.trees) made.committed)
