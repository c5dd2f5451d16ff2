-- What the statements on contents do to the rows of an office.
use Rattle.office_contents.proofs.FirstLemmas.{arith, ◌≡◌, ◌&&◌, ◌||◌, ◌⊎◌, ◌==◌, ap₂, not, bytes_eq, ℕ, ℤ, pos, ◌+ℤ◌, List, [], ◌∷◌, ◌++◌, map, filter, find, fold, length, slice_get, option_map, unwrap_or, Bool, true, false, Option, None, Some, Ok, refl, sym, ap, subst, subst₂, ◌∙◌, inl, inr, if◌then◌else◌, AllByRecursion, IsDistinct, list_any, bytes_eq-Decides, sha256, int_eq, map-append, same_Some, and-true, cases_Bool, and_parts, or_parts, nat_tests, Null, Int, Blob, Row, column, Edit, edit_of, id_in, Chosen, Given, cast_row, binary, is_true, is_null, Binary, rowid, Database, State, Shown, Executes, Compare, Eq, first_key, plain, joined, ascending_weaker, map-map, filter-map, filter_all, Has, ids_of, all_has, all_from, has_filtered, has_found, has_kept, some_has, some_from, has_mapped, mapped_has, int_is, Datatype, NotNull, ForeignKey, same_name, agree, has_null, filter_same, IsShaped, int_at, bytes_at, Changes, inserts, passes, shown_of, reads_same, reads_rising, finds_part, reads_some, found_by, int_itself, same_int, same_blob, by_number, has_number, each_numbered, few_numbered, one_numbered, rising, typed_at, all_both, appended, cast_null, cast_int, map_alike, obeys_rule, drops, office_schema, content_table, file_table, file_tree, content_tree, FileRow, ContentRow, is_content, content_numbered, bytes_under, is_alike, next_id, last_number, with_content, with_file, file_at, Tables, IsOffice, tables_of, contents_of, content_in, file_in, references_of, StandOnce, IsMarked, AreUsed, StoresOnce, HasSameFiles, content_after, IsContentAdded, IsNewContent, number_alike, content_number, IsContentStored, IsFileAdded, IsMarkedPut, AreFilesDropped, AreUsedOr, IsTidied, is_among, is_intact, without_unused, references_within, references_without, contents_without, of_files, of_contents, idle, becomes, with_edit, contents_after, references_after, file_rows_after, reads_last, only, reads_numbered}
use mathlib.Core.Bool.{or-true}
use Rattle.sqlite_keyed.proofs.KeyedLemmas.{same_int as same_number}
use Rattle.sqlite_trees.specs.declared.store.Shape.TheVariants as shape
use Rattle.office_contents.proofs.ContentTexts.{content_text, content_columns, by_likeness, alike_text, last_text, contents_text, size_columns, by_content, users_text, add_text, add_terms, remove_text, content_meanings}

-- a stored content, as the rules of its table leave it
abbrev IsContentRow : Row → Type 0
IsContentRow r = (column r 2 ≡ Blob (bytes_at r 2)) × (column r 3 ≡ Int (int_at r 3)) × (column r 4 ≡ Blob (bytes_at r 4))

content_rows : (db : Database) → IsOffice db → AllByRecursion IsContentRow (db.trees content_tree)
content_rows db office = all_both (λ r t p.
    let at = typed_at office_schema db.trees content_table r t p in
    (at 1 refl, at 2 refl, at 3 refl)) (db.trees content_tree) (of_contents (obeys_rule office.whole Datatype)) (of_contents (obeys_rule office.whole NotNull))

-- the reference of a stored file
pub file_references : (db : Database) → IsOffice db → AllByRecursion (λ r. column r 3 ≡ Int (int_at r 3)) (db.trees file_tree)
file_references db office = all_both (λ r t p. typed_at office_schema db.trees file_table r t p 2 refl)
    (db.trees file_tree) (of_files (obeys_rule office.whole Datatype)) (of_files (obeys_rule office.whole NotNull))

-- ---- the content of a number

module _ (db : Database) (office : IsOffice db) where
  abbrev stored : List Row
  stored = db.trees content_tree

  shaped : IsShaped shape.Table stored
  shaped = of_contents office.whole.shaped

  -- the content that has a number is the one of that number
  pub row_numbered : (n : ℤ) (r : Row) → Has stored r → has_number n r ≡ true → content_numbered n (contents_of db) ≡ Some (content_in r)
  row_numbered n r there is =
      let first = found_by (is_content n) (has_number n) content_in stored (all_from _ stored (λ r there. refl)) in
      elim (few_numbered n stored shaped) [
        | inl none ↦ absurd (subst (λ rs. Has rs r) none (has_kept (has_number n) stored r there is))
        | inr (other, kept, passes, only) ↦ first ∙ ap (λ rs. option_map content_in (slice_get rs 0)) only ∙ ap (λ x. Some (content_in x)) (one_numbered stored shaped n other r kept there passes is)
      ]

  pub content_there : (c : ContentRow) → Has (contents_of db) c → content_numbered c.id (contents_of db) ≡ Some c
  content_there c there =
      let it = has_mapped content_in stored c there in
      let number : has_number c.id it.0 ≡ true = subst (λ (d : ContentRow). has_number d.id it.0 ≡ true) (sym it.2) (int_itself (int_at it.0 0)) in
      row_numbered c.id it.0 it.1 number ∙ ap Some (sym it.2)

  -- the parent of a file is there
  abbrev parents : Row → Bool
  parents row = list_any (λ parent. agree plain (0 ∷ []) parent (3 ∷ []) row) stored

  held : (row : Row) → Has (db.trees file_tree) row → parents row ≡ true
  unfolding joined same_name
  held row there =
      let each = all_has _ (db.trees file_tree) row (of_files (obeys_rule office.whole ForeignKey)) there in
      let typed : column row 3 ≡ Int (int_at row 3) = all_has _ (db.trees file_tree) row (file_references db office) there in
      let one : (has_null (3 ∷ []) row || parents row) && true ≡ true = each in
      let either : has_null (3 ∷ []) row || parents row ≡ true = (and_parts _ _ one).0 in
      let filled : has_null (3 ∷ []) row ≡ false = ap (λ v. is_null v || false) typed in
      rw filled at either

  parent_is : (row parent : Row) → column row 3 ≡ Int (int_at row 3) → Has stored parent → agree plain (0 ∷ []) parent (3 ∷ []) row ≡ has_number (int_at row 3) parent
  unfolding first_key
  parent_is row parent names there =
      and-true _ ∙ ap₂ (λ a b. is_true (binary (Compare Eq Binary) a b)) (int_is (rowid parent) (all_has _ stored parent shaped.1 there)) names ∙ same_int (int_at parent 0) (int_at row 3)

  pub parent_of : (row : Row) → Has (db.trees file_tree) row → (p : Row) × Has stored p × (has_number (int_at row 3) p ≡ true)
  parent_of row there =
      let it = some_has (λ parent. agree plain (0 ∷ []) parent (3 ∷ []) row) stored (held row there) in
      let names : column row 3 ≡ Int (int_at row 3) = all_has _ (db.trees file_tree) row (file_references db office) there in
      (it.0, it.1, sym (parent_is row it.0 names it.1) ∙ it.2)

  -- the content of a file is there
  pub fetched : (row : Row) → Has (db.trees file_tree) row → (c : ContentRow) × (content_numbered (int_at row 3) (contents_of db) ≡ Some c) × Has (contents_of db) c
  fetched row there =
      let p = parent_of row there in
      (content_in p.0, row_numbered (int_at row 3) p.0 p.1 p.2, mapped_has content_in stored p.0 p.1)

-- ---- finding among more or fewer contents

found_before : (n : ℤ) (cs more : List ContentRow) (c : ContentRow) → content_numbered n cs ≡ Some c → content_numbered n (cs ++ more) ≡ Some c
found_before n [] more c is = absurd cc
found_before n (d ∷ cs) more c is = elim (cases_Bool (is_content n d)) [
  | inl here ↦ rw here (rw here at is)
  | inr isnt ↦ rw isnt (found_before n cs more c (rw isnt at is))
]

found_kept : (n : ℤ) (keep : ContentRow → Bool) (cs : List ContentRow) → ((c : ContentRow) → is_content n c ≡ true → keep c ≡ true) → content_numbered n (filter keep cs) ≡ content_numbered n cs
found_kept n keep [] all = refl
found_kept n keep (c ∷ cs) all = elim (cases_Bool (is_content n c)) [
  | inl here ↦ let kept : keep c ≡ true = all c here in rw (kept, here) refl
  | inr isnt ↦ elim (cases_Bool (keep c)) [
    | inl kept ↦ rw (kept, isnt) (found_kept n keep cs all)
    | inr left ↦ rw (left, isnt) (found_kept n keep cs all)
  ]
]

-- files whose contents are found alike are alike
same_files : (cs ds : List ContentRow) (rows : List Row) → ((r : Row) → Has rows r → content_numbered (int_at r 3) cs ≡ content_numbered (int_at r 3) ds) → map (file_in cs) rows ≡ map (file_in ds) rows
same_files cs ds rows alike = map_alike (file_in cs) (file_in ds) rows (λ r there. ap (λ (o : Option ContentRow). record { deposit = int_at r 1; path = bytes_at r 2; content = unwrap_or (option_map (λ c. c.bytes) o) [] }) (alike r there))

-- ---- reads

-- the mark and the bytes of a content
abbrev pub marked_bytes : ContentRow → List ℕ × List ℕ
marked_bytes c = (c.mark, c.bytes)

-- those that a row shows
abbrev pub shown_marked : Row → List ℕ × List ℕ
shown_marked row = (bytes_at row 0, bytes_at row 1)

pub finds_marked : (old new : State) (id : ℤ) (rows : List Row) → IsOffice old.now → Shown content_text (Int id ∷ []) old new rows
    → (new.now ≡ old.now) × (option_map marked_bytes (content_numbered id (contents_of old.now)) ≡ option_map shown_marked (slice_get rows 0))
finds_marked old new id rows office h =
    let read = reads_numbered old new rows office content_meanings.asks_content id (of_contents office.whole.shaped) h in
    (read.0, finds_part (old.now.trees content_tree) rows (has_number id) (shown_of (Int id ∷ []) content_columns) content_in (is_content id) (λ r. refl) read.1 marked_bytes shown_marked (λ r. refl))

-- what a row shows of a content is the content's
pub bytes_shown : (found : Option ContentRow) (row : Option Row) → option_map marked_bytes found ≡ option_map shown_marked row → option_map (λ (c : ContentRow). c.bytes) found ≡ option_map (λ row. bytes_at row 1) row
bytes_shown None None is = refl
bytes_shown None (Some row) is = absurd cc
bytes_shown (Some c) None is = absurd cc
bytes_shown (Some c) (Some row) is = ap (λ (o : Option (List ℕ × List ℕ)). option_map (λ (p : List ℕ × List ℕ). p.1) o) is

-- and where the SHA-256 of the bytes that it shows is the mark that it shows, the content is intact
pub intact_shown : (found : Option ContentRow) (row : Row) → option_map marked_bytes found ≡ Some (shown_marked row) → bytes_eq (bytes_at row 0) (sha256 (bytes_at row 1)) ≡ true → is_intact found ≡ true
intact_shown None row is intact = absurd cc
intact_shown (Some c) row is intact =
    let both : marked_bytes c ≡ shown_marked row = same_Some (marked_bytes c) (shown_marked row) is in
    ap (λ (p : List ℕ × List ℕ). bytes_eq p.0 (sha256 p.1)) both ∙ intact

-- and where the content isn't intact, it is another
pub altered_shown : (found : Option ContentRow) (row : Row) → option_map marked_bytes found ≡ Some (shown_marked row) → is_intact found ≡ false → bytes_eq (bytes_at row 0) (sha256 (bytes_at row 1)) ≡ false
altered_shown None row is altered = absurd cc
altered_shown (Some c) row is altered =
    let both : marked_bytes c ≡ shown_marked row = same_Some (marked_bytes c) (shown_marked row) is in
    sym (ap (λ (p : List ℕ × List ℕ). bytes_eq p.0 (sha256 p.1)) both) ∙ altered

abbrev is_like : List ℕ → List ℕ → Row → Bool
is_like mark bytes r = bytes_eq (bytes_at r 2) mark && bytes_eq (bytes_at r 4) bytes

passes_likeness : (mark bytes : List ℕ) (r : Row) → IsContentRow r → passes (Blob mark ∷ Blob bytes ∷ []) by_likeness r ≡ is_like mark bytes r
passes_likeness mark bytes r it = ap₂ ◌&&◌
    (ap (λ v. is_true (binary (Compare Eq Binary) v (Blob mark))) it.0 ∙ same_blob (bytes_at r 2) mark)
    (and-true _ ∙ ap (λ v. is_true (binary (Compare Eq Binary) v (Blob bytes))) it.2 ∙ same_blob (bytes_at r 4) bytes)

each_like : (db : Database) → IsOffice db → (mark bytes : List ℕ) → AllByRecursion (λ r. passes (Blob mark ∷ Blob bytes ∷ []) by_likeness r ≡ is_like mark bytes r) (db.trees content_tree)
each_like db office mark bytes = all_from _ (db.trees content_tree) (λ r there. passes_likeness mark bytes r (all_has IsContentRow (db.trees content_tree) r (content_rows db office) there))

-- the first row shows the number of the first content with the mark and the bytes
pub finds_alike : (old new : State) (mark bytes : List ℕ) (rows : List Row) → IsOffice old.now → Shown alike_text (Blob mark ∷ Blob bytes ∷ []) old new rows
    → (new.now ≡ old.now) × (number_alike mark bytes (contents_of old.now) ≡ option_map (λ row. int_at row 0) (slice_get rows 0))
finds_alike old new mark bytes rows office h =
    let params : Row = Blob mark ∷ Blob bytes ∷ [] in
    let stored = old.now.trees content_tree in
    let ascends = ascending_weaker _ _ (λ a b lower. rw lower refl) stored (of_contents office.whole.shaped).0 in
    let is = reads_rising office_schema alike_text content_tree by_likeness (only 0) rising content_meanings.asks_alike params old new office.whole.schema_is rows h (is_like mark bytes) (each_like old.now office mark bytes) ascends in (
      reads_same office_schema alike_text content_tree by_likeness (only 0) rising content_meanings.asks_alike params old new office.whole.schema_is rows h,
      finds_part stored rows (is_like mark bytes) (shown_of params (only 0)) content_in (is_alike mark bytes) (λ r. refl) is (λ (c : ContentRow). c.id) (λ row. int_at row 0) (λ r. refl),
    )

pub finds_last : (old new : State) (rows : List Row) → IsOffice old.now → Shown last_text [] old new rows
    → (new.now ≡ old.now) × (last_number (λ (c : ContentRow). c.id) (contents_of old.now) ≡ option_map (λ row. int_at row 0) (slice_get rows 0))
finds_last old new rows office h = reads_last content_tree content_in (λ (c : ContentRow). c.id) (λ r. refl) office_schema last_text content_meanings.asks_last old new office.whole.schema_is (of_contents office.whole.shaped).0 rows h

abbrev shown_size : Row → ℤ × ℤ
shown_size row = (int_at row 0, int_at row 1)

pub lists_contents : (old new : State) (rows : List Row) → IsOffice old.now → Shown contents_text [] old new rows
    → (new.now ≡ old.now) × (map (λ (c : ContentRow). (c.id, c.size)) (contents_of old.now) ≡ map shown_size rows)
lists_contents old new rows office h =
    let stored = old.now.trees content_tree in
    let up = ascending_weaker _ _ (λ a b lower. rw lower refl) stored (of_contents office.whole.shaped).0 in
    let is = reads_rising office_schema contents_text content_tree [] size_columns rising content_meanings.asks_contents [] old new office.whole.schema_is rows h (λ r. true) (all_from _ stored (λ r there. refl)) up in
    let whole : rows ≡ map (shown_of [] size_columns) stored = is ∙ ap (map (shown_of [] size_columns)) (filter_all (λ r. true) stored (λ r there. refl)) in
    let shows : map shown_size (map (shown_of [] size_columns) stored) ≡ map (λ r. (int_at r 0, int_at r 3)) stored = map-map shown_size (shown_of [] size_columns) stored in
    let typed : map (λ (c : ContentRow). (c.id, c.size)) (map content_in stored) ≡ map (λ r. (int_at r 0, int_at r 3)) stored = map-map (λ (c : ContentRow). (c.id, c.size)) content_in stored in (
      reads_same office_schema contents_text content_tree [] size_columns rising content_meanings.asks_contents [] old new office.whole.schema_is rows h,
      typed ∙ sym shows ∙ sym (ap (map shown_size) whole),
    )

abbrev refers_to : ℤ → Row → Bool
refers_to id r = int_eq (int_at r 3) id

passes_content : (id : ℤ) (r : Row) → column r 3 ≡ Int (int_at r 3) → passes (Int id ∷ []) by_content r ≡ refers_to id r
passes_content id r it = and-true _ ∙ ap (λ v. is_true (binary (Compare Eq Binary) v (Int id))) it ∙ same_int (int_at r 3) id

-- a row stands exactly where some file has the content of that number
pub finds_users : (old new : State) (id : ℤ) (rows : List Row) → IsOffice old.now → Shown users_text (Int id ∷ []) old new rows
    → (new.now ≡ old.now) × (list_any (refers_to id) (old.now.trees file_tree) ≡ list_any (λ r. true) rows)
finds_users old new id rows office h =
    reads_some office_schema users_text file_tree by_content (only 1) content_meanings.asks_users (Int id ∷ []) old new office.whole.schema_is rows h (refers_to id)
    (all_from _ (old.now.trees file_tree) (λ r there. passes_content id r (all_has _ (old.now.trees file_tree) r (file_references old.now office) there)))

-- ---- one content more

next_is : (rows : List Row) (n : ℤ) → fold (λ _ r. id_in (rowid r) +ℤ pos 1) n rows ≡ fold (λ _ (c : ContentRow). c.id +ℤ pos 1) n (map content_in rows)
next_is [] n = refl
next_is (r ∷ rows) n = next_is rows (id_in (rowid r) +ℤ pos 1)

module _ (old new : State) (mark bytes : List ℕ) (count : ℕ) (office : IsOffice old.now) (h : Executes add_text (Blob mark ∷ Int (pos (length bytes)) ∷ Blob bytes ∷ []) old new (Ok count)) where
  abbrev added_params : Row
  added_params = Blob mark ∷ Int (pos (length bytes)) ∷ Blob bytes ∷ []

  abbrev added_columns : Row
  added_columns = Null ∷ added_params

  abbrev added_edit : Edit
  added_edit = edit_of old.now.trees content_table [] Chosen 0 ((Null ∷ added_columns) ∷ [])

  added_change : Changes office_schema old new added_edit count added_edit.news
  added_change = inserts add_text added_params old new office_schema office.whole.schema_is 8 content_table refl idle add_terms 5 content_meanings.add_means refl refl count h

  added_cast : cast_row content_table (Null ∷ added_columns) ≡ Null ∷ added_columns
  added_cast = rw (cast_null, cast_int (pos (length bytes))) refl

  abbrev added_content : ContentRow
  added_content = record { id = next_id (contents_of old.now); mark = mark; size = pos (length bytes); bytes = bytes }

  -- the contents are one more
  added_at_end : contents_of (with_edit added_edit old.now) ≡ contents_of old.now ++ added_content ∷ []
  added_at_end =
      ap (map content_in) (appended old.now.trees content_table (Null ∷ added_columns) added_columns (of_contents office.whole.shaped) added_cast) ∙ map-append content_in (old.now.trees content_tree) _
      ∙ ap (λ n. contents_of old.now ++ record { id = n; mark = mark; size = pos (length bytes); bytes = bytes } ∷ []) (next_is (old.now.trees content_tree) (pos 1))

  pub adds_content : IsContentAdded mark bytes old.now new.now
  adds_content =
      let rows = old.now.trees file_tree in
      let cs = contents_of old.now in
      let files : map (file_in (contents_of (with_edit added_edit old.now))) rows ≡ map (file_in cs) rows =
      ap (λ all. map (file_in all) rows) added_at_end ∙ same_files (cs ++ added_content ∷ []) cs rows (λ r there. let it = fetched old.now office r there in found_before (int_at r 3) cs (added_content ∷ []) it.0 it.1 ∙ sym it.1) in
      record {
        keeps = record {
          becomes = becomes old new added_edit count added_edit.news office refl added_change _ (ap (λ (fs : List FileRow). record (tables_of old.now) { files = fs }) files);
          references = references_after old new added_edit count added_edit.news added_change;
        };
        contents = contents_after old new added_edit count added_edit.news added_change ∙ added_at_end;
      }

-- ---- one content less

id_found : (n : ℤ) (cs : List ContentRow) (c : ContentRow) → content_numbered n cs ≡ Some c → c.id ≡ n
id_found n [] c is = absurd cc
id_found n (d ∷ cs) c is = elim (cases_Bool (is_content n d)) [
  | inl here ↦ let same : d ≡ c = let e : Some d ≡ Some c = rw here at is in cc in ap (λ (x : ContentRow). x.id) (sym same) ∙ same_number d.id n here
  | inr isnt ↦ id_found n cs c (rw isnt at is)
]

pub removes_content : (old new : State) (id : ℤ) (count : ℕ) → IsOffice old.now → Executes remove_text (Int id ∷ []) old new (Ok count)
    → HasSameFiles old.now new.now × (contents_of new.now ≡ filter (λ c. not (is_content id c)) (contents_of old.now))
removes_content old new id count office h =
    let db = old.now.trees in
    let shaped = of_contents office.whole.shaped in
    let done = drops remove_text (Int id ∷ []) old new office_schema office.whole.schema_is 8 content_table refl idle shaped by_number (only 0)
    (has_number id) (each_numbered id [] (db content_tree) shaped) content_meanings.remove_means (λ r. refl) count h in
    let edit = edit_of db content_table (ids_of done.answer) Given 0 [] in
    let cs = contents_of old.now in
    let fewer : contents_of (with_edit edit old.now) ≡ filter (λ c. not (is_content id c)) cs = ap (map content_in) done.made ∙ sym (filter-map (λ c. not (is_content id c)) content_in (db content_tree)) in
    let contents = contents_after old new edit count _ done.change ∙ fewer in
    let references = references_after old new edit count _ done.change in
    let whole = becomes old new edit count _ office refl done.change _ refl in
    let rows : new.now.trees file_tree ≡ db file_tree = file_rows_after old new edit count _ done.change in
    let files : map (file_in (contents_of (with_edit edit old.now))) (db file_tree) ≡ map (file_in cs) (db file_tree) =
    ap (λ all. map (file_in all) (db file_tree)) fewer ∙ same_files (filter (λ c. not (is_content id c)) cs) cs (db file_tree)
    (λ r there. found_kept (int_at r 3) (λ c. not (is_content id c)) cs (stays new.now whole.office contents r (subst (λ rs. Has rs r) (sym rows) there))) in (
      record {
        becomes = becomes old new edit count _ office refl done.change _ (ap (λ (fs : List FileRow). record (tables_of old.now) { files = fs }) files);
        references = references;
      },
      contents,
    )
  where
    -- no file refers to what was taken out
    stays : (after : Database) → IsOffice after → contents_of after ≡ filter (λ c. not (is_content id c)) (contents_of old.now) → (r : Row) → Has (after.trees file_tree) r
        → (c : ContentRow) → is_content (int_at r 3) c ≡ true → not (is_content id c) ≡ true
    stays after whole is r there c same =
        let it = fetched after whole r there in
        let within = has_filtered (λ c. not (is_content id c)) (contents_of old.now) it.0 (subst (λ cs. Has cs it.0) is it.2) in
        let numbered : it.0.id ≡ int_at r 3 = id_found (int_at r 3) (contents_of after) it.0 it.1 in
        let same_id : c.id ≡ int_at r 3 = same_number c.id (int_at r 3) same in
        ap (λ n. not (int_eq n id)) (same_id ∙ sym numbered) ∙ within.1

-- ---- what the calls in turn say

-- the content whose number was found, if one was
alike_there : (mark bytes : List ℕ) (cs : List ContentRow) (id : ℤ) → number_alike mark bytes cs ≡ Some id → (c : ContentRow) × Has cs c × (is_alike mark bytes c ≡ true) × (c.id ≡ id)
alike_there mark bytes cs id = by (find (is_alike mark bytes) cs) refl
  where
    by : (o : Option ContentRow) → find (is_alike mark bytes) cs ≡ o → option_map (λ (c : ContentRow). c.id) o ≡ Some id → (c : ContentRow) × Has cs c × (is_alike mark bytes c ≡ true) × (c.id ≡ id)
    by None found is = absurd cc
    by (Some c) found is = let it = has_found (is_alike mark bytes) cs c found in (c, it.0, it.1, same_Some c.id id is)

none_alike : (mark bytes : List ℕ) (cs : List ContentRow) → number_alike mark bytes cs ≡ None → list_any (is_alike mark bytes) cs ≡ false
none_alike mark bytes [] none = refl
none_alike mark bytes (c ∷ cs) none = elim (cases_Bool (is_alike mark bytes c)) [
  | inl is ↦ absurd (let some : Some c.id ≡ None = rw is at none in cc)
  | inr isnt ↦ rw isnt (none_alike mark bytes cs (rw isnt at none))
]

last_is : (cs : List ContentRow) (c : ContentRow) → last_number (λ (d : ContentRow). d.id) (cs ++ c ∷ []) ≡ Some c.id
last_is [] c = refl
last_is (d ∷ cs) c = rw (last_is cs c) refl

-- the number that is shown last is that of the content that came
pub is_new_content : (mark bytes : List ℕ) (old mid new : Database) (id : ℤ) → IsContentAdded mark bytes old mid → new ≡ mid
    → last_number (λ (c : ContentRow). c.id) (contents_of mid) ≡ Some id → IsNewContent mark bytes id old new
is_new_content mark bytes old mid new id added same last =
    let shown : Some (next_id (contents_of old)) ≡ Some id =
    sym (last_is (contents_of old) (content_after (contents_of old) mark bytes)) ∙ sym (ap (last_number (λ (c : ContentRow). c.id)) added.contents) ∙ last in
    subst (λ db. IsNewContent mark bytes id old db) (sym same) (record { keeps = added.keeps; numbered = sym (same_Some _ _ shown); contents = added.contents })

pub any_is : (xs : List Row) → list_any (λ (r : Row). true) xs ≡ not (length xs == 0)
any_is [] = refl
any_is (x ∷ xs) = elim (cases_Bool (length (x ∷ xs) == 0)) [
  | inl is ↦ absurd (let none : length (x ∷ xs) ≡ 0 = grind (arith, nat_tests) in omega arith)
  | inr isnt ↦ sym (ap not isnt)
]

pub all_push : {X : Type 0} (P : X → Type 0) (xs : List X) (x : X) → AllByRecursion P xs → P x → AllByRecursion P (xs ++ x ∷ [])
all_push P [] x all here = (here, tt)
all_push P (y ∷ xs) x all here = (all.0, all_push P xs x all.1 here)

pub has_pushed : {X : Type 0} (xs : List X) (x : X) → Has (xs ++ x ∷ []) x
has_pushed [] x = inl refl
has_pushed (y ∷ xs) x = inr (has_pushed xs x)

pub has_before : {X : Type 0} (xs : List X) (x y : X) → Has xs y → Has (xs ++ x ∷ []) y
has_before [] x y there = absurd there
has_before (z ∷ xs) x y (inl same) = inl same
has_before (z ∷ xs) x y (inr more) = inr (has_before xs x y more)

with_bytes : (n : ℤ) (path : List ℕ) (b c : List ℕ) (s t : Tables) → b ≡ c → s ≡ t → with_file (record { deposit = n; path = path; content = b }) s ≡ with_file (record { deposit = n; path = path; content = c }) t
with_bytes n path b c s t same tables = rw (same, tables) refl

-- each content is some file's, by place
abbrev AreHeld : List ℤ → List ContentRow → Type 0
AreHeld refs = AllByRecursion (λ c. Has refs c.id)

pub used_held : (refs : List ℤ) (cs : List ContentRow) → AreUsed refs cs → AreHeld refs cs
used_held refs [] used = tt
used_held refs (c ∷ cs) used = (
  let it = some_has (λ id. int_eq id c.id) refs used.0 in subst (Has refs) (same_number it.0 c.id it.2) it.1,
  used_held refs cs used.1,
)

held_used : (refs : List ℤ) (cs : List ContentRow) → AreHeld refs cs → AreUsed refs cs
held_used refs [] held = tt
held_used refs (c ∷ cs) held = (some_from (λ id. int_eq id c.id) refs c.id held.0 (int_itself c.id), held_used refs cs held.1)

used_after : (refs : List ℤ) (id : ℤ) (cs : List ContentRow) → AreHeld refs cs → AreHeld (refs ++ id ∷ []) cs
used_after refs id [] used = tt
used_after refs id (c ∷ cs) used = (has_before refs id c.id used.0, used_after refs id cs used.1)

-- keeping a content leaves an office
pub kept_office : (mark bytes : List ℕ) (old new : Database) (id : ℤ) → IsOffice old → IsContentStored mark bytes old new id → IsOffice new
kept_office mark bytes old new id office (inl reused) = subst IsOffice (sym reused.same) office
kept_office mark bytes old new id office (inr (lacked, fresh)) = fresh.keeps.becomes.office

-- a file whose content is kept under the number that it was given
pub is_marked_put : (n : ℤ) (path mark bytes : List ℕ) (id : ℤ) (old mid new : Database) → IsOffice mid → IsContentStored mark bytes old mid id → IsFileAdded n path id mid new
    → IsMarkedPut (record { deposit = n; path = path; content = bytes }) mark old new
is_marked_put n path mark bytes id old mid new office (inl reused) added =
    let cs = contents_of old in
    let there = alike_there mark bytes cs id reused.found in
    let same_contents : contents_of new ≡ cs = added.contents ∙ ap contents_of reused.same in
    let same_references : references_of new ≡ references_of old ++ id ∷ [] = added.references ∙ ap (λ db. references_of db ++ id ∷ []) reused.same in
    let number : content_number mark bytes cs ≡ id = ap (λ (o : Option ℤ). unwrap_or o (next_id cs)) reused.found in
    let has_bytes : there.0.bytes ≡ bytes = (bytes_eq-Decides there.0.bytes bytes).0 (and_parts _ _ there.2).1 in
    let numbered : content_numbered id cs ≡ Some there.0 = ap (λ m. content_numbered m cs) (sym there.3) ∙ content_there old (subst IsOffice reused.same office) there.0 there.1 in
    let under : bytes_under (contents_of mid) id ≡ bytes = ap (λ db. bytes_under (contents_of db) id) reused.same ∙ ap (λ (o : Option ContentRow). unwrap_or (option_map (λ c. c.bytes) o) []) numbered ∙ has_bytes in
    let found : list_any (is_alike mark bytes) cs ≡ true = some_from (is_alike mark bytes) cs there.0 there.1 there.2 in
    record {
      becomes = record { office = added.becomes.office; are = added.becomes.are ∙ with_bytes n path (bytes_under (contents_of mid) id) bytes (tables_of mid) (tables_of old) under (ap tables_of reused.same) };
      new_path = subst (λ db. file_at n path (tables_of db).files ≡ None) reused.same added.new_path;
      contents = same_contents ∙ let kept : cs ≡ with_content mark bytes cs = rw found refl in kept;
      references = same_references ∙ ap (λ m. references_of old ++ m ∷ []) (sym number);
      used = λ used. subst₂ AreUsed (sym same_references) (sym same_contents) (held_used (references_of old ++ id ∷ []) cs (used_after (references_of old) id cs (used_held (references_of old) cs used)));
    }
is_marked_put n path mark bytes id old mid new office (inr (lacked, fresh)) added =
    let cs = contents_of old in
    let none : list_any (is_alike mark bytes) cs ≡ false = none_alike mark bytes cs lacked in
    let number : content_number mark bytes cs ≡ id = ap (λ (o : Option ℤ). unwrap_or o (next_id cs)) lacked ∙ sym fresh.numbered in
    let c = content_after cs mark bytes in
    let all = cs ++ c ∷ [] in
    let here : Has (contents_of mid) c = subst (λ xs. Has xs c) (sym fresh.contents) (has_pushed cs c) in
    let under : bytes_under (contents_of mid) id ≡ bytes = ap (λ m. bytes_under (contents_of mid) m) fresh.numbered ∙ ap (λ (o : Option ContentRow). unwrap_or (option_map (λ c. c.bytes) o) []) (content_there mid office c here) in
    let refs : references_of new ≡ references_of old ++ id ∷ [] = added.references ∙ ap (λ rs. rs ++ id ∷ []) fresh.keeps.references in
    let is_last : Has (references_of old ++ id ∷ []) c.id = subst (Has (references_of old ++ id ∷ [])) fresh.numbered (has_pushed (references_of old) id) in
    record {
      becomes = record { office = added.becomes.office; are = added.becomes.are ∙ with_bytes n path (bytes_under (contents_of mid) id) bytes (tables_of mid) (tables_of old) under fresh.keeps.becomes.are };
      new_path = subst (λ t. file_at n path t.files ≡ None) fresh.keeps.becomes.are added.new_path;
      contents = added.contents ∙ fresh.contents ∙ let more : all ≡ with_content mark bytes cs = rw none refl in more;
      references = refs ∙ ap (λ m. references_of old ++ m ∷ []) (sym number);
      used = λ used. subst₂ AreUsed (sym refs) (sym (added.contents ∙ fresh.contents)) (held_used (references_of old ++ id ∷ []) all (all_push (λ (d : ContentRow). Has (references_of old ++ id ∷ []) d.id) cs c (used_after (references_of old) id cs (used_held (references_of old) cs used)) is_last));
    }

-- ---- contents that nobody keeps go

sym_tidied : (id : ℤ) (ids : List ℤ) (refs : List ℤ) (cs : List ContentRow) → Has refs id → AreUsedOr (id ∷ ids) refs cs → AreUsedOr ids refs cs
sym_tidied id ids refs [] there used = tt
sym_tidied id ids refs (c ∷ cs) there used = (
  elim used.0 [ inl his ↦ inl his | inr (inl same) ↦ inl (subst (Has refs) (sym same) there) | inr (inr more) ↦ inr more ],
  sym_tidied id ids refs cs there used.1,
)

any_mapped : (p : ℤ → Bool) (rows : List Row) → list_any p (map (λ row. int_at row 3) rows) ≡ list_any (λ r. p (int_at r 3)) rows
any_mapped p [] = refl
any_mapped p (r ∷ rows) = ap (λ b. p (int_at r 3) || b) (any_mapped p rows)

-- whether a file has the content of that number
among_is : (id : ℤ) (db : Database) (used : Bool) → list_any (refers_to id) (db.trees file_tree) ≡ used → (c : ContentRow) → is_content id c ≡ true → is_among (references_of db) c ≡ used
among_is id db used some c is = any_mapped (λ k. int_eq k c.id) (db.trees file_tree) ∙ ap (λ k. list_any (λ r. int_eq (int_at r 3) k) (db.trees file_tree)) (same_number c.id id is) ∙ some

-- a content of another number stays
others_stay : (id : ℤ) (refs : List ℤ) (c : ContentRow) → is_content id c ≡ false → (is_among refs c || not (is_content id c)) ≡ true
others_stay id refs c isnt = ap (λ b. is_among refs c || not b) isnt ∙ or-true (is_among refs c)

-- a content that some file has stays
pub tidies_used : (id : ℤ) (ids : List ℤ) (old new : Database) → IsOffice old → new ≡ old → list_any (λ r. int_eq (int_at r 3) id) (old.trees file_tree) ≡ true → IsTidied (id ∷ ids) ids old new
tidies_used id ids old new office same some =
    let stays : (c : ContentRow) → (is_among (references_of old) c || not (is_content id c)) ≡ true = λ c. elim (cases_Bool (is_content id c)) [
      | inl is ↦ ap (λ b. b || not (is_content id c)) (among_is id old true some c is)
      | inr isnt ↦ others_stay id (references_of old) c isnt
    ] in
    let it = some_has (λ r. int_eq (int_at r 3) id) (old.trees file_tree) some in
    let there : Has (references_of old) id = subst (Has (references_of old)) (same_number (int_at it.0 3) id it.2) (mapped_has (λ row. int_at row 3) (old.trees file_tree) it.0 it.1) in
    subst (λ db. IsTidied (id ∷ ids) ids old db) (sym same) (record {
      keeps = record { becomes = record { office = office; are = refl }; references = refl };
      once = λ once. once;
      marked = λ marked. marked;
      used = λ used. sym_tidied id ids (references_of old) (contents_of old) there used;
      contents = ap (without_unused ids (references_of old)) (sym (filter_all (λ (c : ContentRow). is_among (references_of old) c || not (is_content id c)) (contents_of old) (λ c there. stays c)));
    })

all_filtered : {X : Type 0} (P : X → Type 0) (keep : X → Bool) (xs : List X) → AllByRecursion P xs → AllByRecursion P (filter keep xs)
all_filtered P keep xs all = all_from P (filter keep xs) (λ x there. all_has P xs x all (has_filtered keep xs x there).0)

once_filtered : (keep : ContentRow → Bool) (cs : List ContentRow) → StandOnce cs → StandOnce (filter keep cs)
unfolding IsDistinct
once_filtered keep [] once = tt
once_filtered keep (c ∷ cs) once = elim (cases_Bool (keep c)) [
  | inl kept ↦ rw kept (all_bytes cs once.0, once_filtered keep cs once.1)
  | inr left ↦ rw left (once_filtered keep cs once.1)
]
  where
    all_bytes : (ds : List ContentRow) → AllByRecursion (λ y. bytes_eq c.bytes y ≡ false) (map (λ (d : ContentRow). d.bytes) ds) → AllByRecursion (λ y. bytes_eq c.bytes y ≡ false) (map (λ (d : ContentRow). d.bytes) (filter keep ds))
    all_bytes [] all = tt
    all_bytes (d ∷ ds) all = elim (cases_Bool (keep d)) [
      | inl kept ↦ rw kept (all.0, all_bytes ds all.1)
      | inr left ↦ rw left (all_bytes ds all.1)
    ]

-- a content that no file has is taken out
pub tidies_removed : (id : ℤ) (ids : List ℤ) (old new : Database) → HasSameFiles old new → contents_of new ≡ filter (λ c. not (is_content id c)) (contents_of old)
    → list_any (refers_to id) (old.trees file_tree) ≡ false → IsTidied (id ∷ ids) ids old new
tidies_removed id ids old new keeps fewer none =
    let cs = contents_of old in
    let others : ContentRow → Bool = λ c. not (is_content id c) in
    let stays : ContentRow → Bool = λ c. is_among (references_of old) c || not (is_content id c) in
    let alike : (c : ContentRow) → others c ≡ stays c = λ c. elim (cases_Bool (is_content id c)) [
      | inl is ↦ sym (ap (λ b. b || not (is_content id c)) (among_is id old false none c is))
      | inr isnt ↦ ap not isnt ∙ sym (others_stay id (references_of old) c isnt)
    ] in
    record {
      keeps = keeps;
      contents = ap₂ (λ refs ds. without_unused ids refs ds) keeps.references (fewer ∙ filter_same others stays cs (all_from (λ c. others c ≡ stays c) cs (λ c there. alike c)));
      once = λ once. subst StandOnce (sym fewer) (once_filtered others cs once);
      marked = λ marked. subst (AllByRecursion IsMarked) (sym fewer) (all_filtered IsMarked others cs marked);
      used = λ used. subst₂ (AreUsedOr ids) (sym keeps.references) (sym fewer) (all_from (λ (c : ContentRow). Has (references_of old) c.id ⊎ Has ids c.id) (filter others cs) (λ c there.
          let it = has_filtered others cs c there in
          elim (all_has (λ (c : ContentRow). Has (references_of old) c.id ⊎ Has (id ∷ ids) c.id) cs c used it.0) [
            | inl his ↦ inl his
            | inr (inl same) ↦ absurd (let is : is_content id c ≡ true = subst (λ n. int_eq n id ≡ true) (sym same) (int_itself id) in let no = it.1 in cc)
            | inr (inr more) ↦ inr more
          ]));
    }

-- one after another
pub tidied_then : (a b c : List ℤ) (old mid new : Database) → IsTidied a b old mid → IsTidied b c mid new → IsTidied a c old new
tidied_then a b c old mid new first second = record {
  keeps = record {
    becomes = record { office = second.keeps.becomes.office; are = second.keeps.becomes.are ∙ first.keeps.becomes.are };
    references = second.keeps.references ∙ first.keeps.references;
  };
  once = λ once. second.once (first.once once);
  marked = λ marked. second.marked (first.marked marked);
  used = λ used. second.used (first.used used);
  contents = second.contents ∙ first.contents;
}

-- ---- all of them at once

filtered_twice : (p q r : ContentRow → Bool) → ((c : ContentRow) → (p c && q c) ≡ r c) → (cs : List ContentRow) → filter q (filter p cs) ≡ filter r cs
filtered_twice p q r both [] = refl
filtered_twice p q r both (c ∷ cs) = elim (cases_Bool (p c)) [
  | inl is ↦ let e : q c ≡ r c = sym (ap (λ b. b && q c) is) ∙ both c in rw (is, e) (ap (λ more. if r c then c ∷ more else more) (filtered_twice p q r both cs))
  | inr isnt ↦ let e : r c ≡ false = sym (both c) ∙ ap (λ b. b && q c) isnt in rw (isnt, e) (filtered_twice p q r both cs)
]

stays_twice : (a x y : Bool) → ((a || not x) && (a || not y)) ≡ (a || not (x || y))
stays_twice true x y = refl
stays_twice false true y = refl
stays_twice false false y = refl

without_each : (ids refs : List ℤ) (cs : List ContentRow) → without_unused ids refs cs ≡ filter (λ c. is_among refs c || not (list_any (λ id. is_content id c) ids)) cs
without_each [] refs cs = sym (filter_all (λ (c : ContentRow). is_among refs c || true) cs (λ c there. or-true (is_among refs c)))
without_each (id ∷ ids) refs cs =
    without_each ids refs (filter (λ c. is_among refs c || not (is_content id c)) cs)
    ∙ filtered_twice (λ c. is_among refs c || not (is_content id c)) (λ c. is_among refs c || not (list_any (λ k. is_content k c) ids)) (λ c. is_among refs c || not (is_content id c || list_any (λ k. is_content k c) ids))
    (λ c. stays_twice (is_among refs c) (is_content id c) (list_any (λ k. is_content k c) ids)) cs

-- a number is among those of one list where it is among those of the other
same_among : (xs ys : List ℤ) (k : ℤ) → (Has xs k → Has ys k) → (Has ys k → Has xs k) → list_any (λ id. int_eq k id) xs ≡ list_any (λ id. int_eq id k) ys
same_among xs ys k there back = elim (cases_Bool (list_any (λ id. int_eq k id) xs)) [
  | inl some ↦
      let x = some_has (λ id. int_eq k id) xs some in
      some ∙ sym (some_from (λ id. int_eq id k) ys k (there (subst (Has xs) (sym (same_number k x.0 x.2)) x.1)) (int_itself k))
  | inr none ↦ elim (cases_Bool (list_any (λ id. int_eq id k) ys)) [
    | inl some ↦ absurd (
        let y = some_has (λ id. int_eq id k) ys some in
        let also : list_any (λ id. int_eq k id) xs ≡ true = some_from (λ id. int_eq k id) xs k (back (subst (Has ys) (same_number y.0 k y.2) y.1)) (int_itself k) in
        let clash : true ≡ false = sym also ∙ none in cc)
    | inr also ↦ none ∙ sym also
  ]
]

-- ---- stored once

once_pushed : (cs : List ContentRow) (c : ContentRow) → StandOnce cs → AllByRecursion (λ (d : ContentRow). bytes_eq d.bytes c.bytes ≡ false) cs → StandOnce (cs ++ c ∷ [])
unfolding IsDistinct
once_pushed [] c once apart = (tt, tt)
once_pushed (d ∷ cs) c once apart = (more cs once.0, once_pushed cs c once.1 apart.1)
  where
    more : (ds : List ContentRow) → AllByRecursion (λ y. bytes_eq d.bytes y ≡ false) (map (λ (e : ContentRow). e.bytes) ds) → AllByRecursion (λ y. bytes_eq d.bytes y ≡ false) (map (λ (e : ContentRow). e.bytes) (ds ++ c ∷ []))
    more [] all = (apart.0, tt)
    more (e ∷ ds) all = (all.0, more ds all.1)

-- none has these bytes under another mark
abbrev AreNamed : List ℕ → List ℕ → List ContentRow → Type 0
AreNamed mark bytes = AllByRecursion (λ c. c.bytes ≡ bytes → c.mark ≡ mark)

unlike : (mark bytes : List ℕ) (cs : List ContentRow) → AreNamed mark bytes cs → list_any (is_alike mark bytes) cs ≡ false → AllByRecursion (λ (d : ContentRow). bytes_eq d.bytes bytes ≡ false) cs
unlike mark bytes [] named none = tt
unlike mark bytes (c ∷ cs) named none =
    let parts = or_parts (is_alike mark bytes c) (list_any (is_alike mark bytes) cs) none in (
      elim (cases_Bool (bytes_eq c.bytes bytes)) [
        | inl same ↦ absurd (
            let marked : bytes_eq c.mark mark ≡ true = (bytes_eq-Decides c.mark mark).1 (named.0 ((bytes_eq-Decides c.bytes bytes).0 same)) in
            let both : is_alike mark bytes c ≡ true = rw (marked, same) refl in
            let no = parts.0 in cc)
        | inr other ↦ other
      ],
      unlike mark bytes cs named.1 parts.1,
    )

-- contents that stood once still do, where none has these bytes under another mark
pub stands_once : (mark bytes : List ℕ) (cs : List ContentRow) → AreNamed mark bytes cs → StandOnce cs → StandOnce (with_content mark bytes cs)
stands_once mark bytes cs named once = elim (cases_Bool (list_any (is_alike mark bytes) cs)) [
  | inl there ↦ rw there once
  | inr lacked ↦ rw lacked (once_pushed cs (content_after cs mark bytes) once (unlike mark bytes cs named lacked))
]

all_named : (bytes : List ℕ) (cs : List ContentRow) → AllByRecursion IsMarked cs → AreNamed (sha256 bytes) bytes cs
all_named bytes [] marked = tt
all_named bytes (c ∷ cs) marked = (λ same. marked.0.mark ∙ ap sha256 same, all_named bytes cs marked.1)

-- contents that were stored once still are after a file was put under the SHA-256 of its bytes
pub put_once : (path bytes : List ℕ) (n : ℤ) (old new : Database) → IsMarkedPut (record { deposit = n; path = path; content = bytes }) (sha256 bytes) old new → StoresOnce old → StoresOnce new
put_once path bytes n old new put kept = by (list_any (is_alike (sha256 bytes) bytes) (contents_of old)) refl
  where
    by : (found : Bool) → list_any (is_alike (sha256 bytes) bytes) (contents_of old) ≡ found → StoresOnce new
    by true is =
        let same : contents_of new ≡ contents_of old = put.contents ∙ let e : with_content (sha256 bytes) bytes (contents_of old) ≡ contents_of old = rw is refl in e in
        record { once = subst StandOnce (sym same) kept.once; marked = subst (AllByRecursion IsMarked) (sym same) kept.marked; used = put.used kept.used }
    by false is =
        let c = content_after (contents_of old) (sha256 bytes) bytes in
        let more : contents_of new ≡ contents_of old ++ c ∷ [] = put.contents ∙ let e : with_content (sha256 bytes) bytes (contents_of old) ≡ contents_of old ++ c ∷ [] = rw is refl in e in
        record {
          once = subst StandOnce (sym put.contents) (stands_once (sha256 bytes) bytes (contents_of old) (all_named bytes (contents_of old) kept.marked) kept.once);
          marked = subst (AllByRecursion IsMarked) (sym more) (all_push IsMarked (contents_of old) c kept.marked (record { mark = refl; size = refl }));
          used = put.used kept.used;
        }

-- after the files of a deposit were dropped, and then their contents that nobody else has, each content is some file's if each was before
module _ (n : ℤ) (ids : List ℤ) (old mid new : Database) (theirs : (r : Row) → Has (old.trees file_tree) r → int_eq (int_at r 1) n ≡ true → Has ids (int_at r 3)) (dropped : AreFilesDropped n old mid) (tidied : IsTidied ids [] mid new) where
  none_left : (cs : List ContentRow) → AreUsedOr [] (references_of new) cs → AreHeld (references_of new) cs
  none_left [] used = tt
  none_left (c ∷ cs) used = (elim used.0 [ inl his ↦ his | inr none ↦ absurd none ], none_left cs used.1)

  pub drop_used : AreUsed (references_of old) (contents_of old) → AreUsed (references_of new) (contents_of new)
  drop_used used =
      let cs = contents_of old in
      let before : AreUsedOr ids (references_of mid) (contents_of mid) = subst (AreUsedOr ids (references_of mid)) (sym dropped.contents) (all_from (λ (c : ContentRow). Has (references_of mid) c.id ⊎ Has ids c.id) cs (λ c there.
      elim (dropped.references c.id (all_has (λ (c : ContentRow). Has (references_of old) c.id) cs c (used_held (references_of old) cs used) there)) [
        | inl still ↦ inl still
        | inr (r, within, his, is) ↦ inr (subst (Has ids) is (theirs r within his))
      ])) in
      held_used (references_of new) (contents_of new) (none_left (contents_of new) (tidied.used before))

  -- so contents that were stored once still are
  pub drop_once : StoresOnce old → StoresOnce new
  drop_once kept = record {
    once = tidied.once (subst StandOnce (sym dropped.contents) kept.once);
    marked = tidied.marked (subst (AllByRecursion IsMarked) (sym dropped.contents) kept.marked);
    used = drop_used kept.used;
  }

  -- and what is left of references and contents, whatever they were
  pub drop_references : references_of new ≡ references_without n (tables_of old).files (references_of old)
  drop_references = tidied.keeps.references ∙ dropped.left

  pub drop_contents : ((id : ℤ) → Has ids id → Has (references_within n (tables_of old).files (references_of old)) id) → ((id : ℤ) → Has (references_within n (tables_of old).files (references_of old)) id → Has ids id)
      → contents_of new ≡ contents_without n (tables_of old).files (references_of old) (contents_of old)
  drop_contents there back =
      let cs = contents_of old in
      let left = references_without n (tables_of old).files (references_of old) in
      let gone = references_within n (tables_of old).files (references_of old) in
      tidied.contents
      ∙ ap₂ (λ refs ds. without_unused ids refs ds) dropped.left dropped.contents
      ∙ without_each ids left cs
      ∙ filter_same (λ c. is_among left c || not (list_any (λ id. is_content id c) ids)) (λ c. is_among left c || not (is_among gone c)) cs
      (all_from (λ c. (is_among left c || not (list_any (λ id. is_content id c) ids)) ≡ (is_among left c || not (is_among gone c))) cs
      (λ c _. ap (λ b. is_among left c || not b) (same_among ids gone c.id (there c.id) (back c.id))))
