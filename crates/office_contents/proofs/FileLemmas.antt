-- What the statements on files do to the rows of an office.
use Rattle.office_contents.proofs.FirstLemmas.{arith, unwrap_or, ◌≡◌, ◌&&◌, ◌⊎◌, ap₂, not, bytes_eq, ℕ, ℤ, List, [], ◌∷◌, ◌++◌, ◌<◌, map, filter, take, length, slice_index_or as get_or, slice_get, slice_index_or, ◌+◌, option_map, Bool, true, false, Option, None, Some, Ok, Ordering, Equal, Less, refl, sym, ap, subst, subst₂, ◌∙◌, inl, inr, AllByRecursion, is_lt, is_eq, int_eq, nat_cmp, map-append, map_push, map_more, IsPermutation, IsSorted, and-true, cases_Bool, and_parts, same_Some, tied_itself, is_eq-slice_cmp, IsPermutation-map, IsPermutation-sym, All-permutation, bytes_eq-Decides, recursion_from_All, All-from_recursion, sha256, Null, Int, Text, Row, column, value_cmp, Edit, edit_of, with_rowid, next_rowid, Chosen, Given, cast_row, binary, is_true, Binary, rowid, IsAscending, output, output_cmp, Database, State, Shown, Executes, Compare, Eq, first_key, plain, then-Equal, value_cmp-Text, value_cmp_total, IsSorted-map, sorted_is-sort_by, sort_by-map, IsPermutation-sort_by, all-permutation, filter_same, ascending-map, ascending-filter, all_map, map-map, filter-map, Has, ids_of, all_has, all_from, has_filtered, has_kept, has_found, has_mapped, mapped_has, Datatype, NotNull, Unique, Enforced, agree, equal, int_at, bytes_at, Changes, inserts, scan, passes, shown_of, answer_sound, answer_complete, reads_same, reads_one, reads_scan, finds_part, none_before, found_by, bytes_itself, int_itself, same_key, unclashed, same_text, same_int, lone, typed_at, all_both, appended, cast_null, cast_int, map_alike, obeys_rule, drops, office_schema, file_table, file_tree, FileRow, ContentRow, bytes_under, is_file_of, is_file_at, file_at, with_file, IsOffice, Becomes, tables_of, contents_of, file_in, references_of, references_where, references_within, content_at, content_referred, is_intact, IsMarked, StoresOnce, IsFileAdded, AreFilesDropped, ShowsFile, shown_path, path_cmp, files_by_path, of_files, idle, becomes, with_edit, file_rows_after, contents_after, references_after, only, all_given}
use Rattle.std.specs.Cmp.{IsTotalOrder}
use Rattle.std.specs.List.{list_all}
use Rattle.std.specs.Prelude.{IsSome}
use Rattle.sqlite_rules.proofs.ListLemmas.{test_has}
use Rattle.office_contents.specs.Contents.{HasAltered}
use Rattle.office_rows.specs.Rows.{Tables}
use Rattle.std.specs.Cmp.Lexicographic.{on_texts, slice_cmp}
use Rattle.sqlite_keyed.specs.Lists.{sort_by}
use Rattle.sqlite_keyed.proofs.KeyedLemmas.{same_int as same_number}
use Rattle.sqlite_rules.proofs.KeyLemmas.{agree_back, agree_chain}
use Rattle.office_rows.proofs.Order.{map_back}
use Rattle.office_contents.proofs.ContentLemmas.{fetched}
use Rattle.office_contents.proofs.FileTexts.{by_deposit, by_place, by_path, content_text, files_columns, files_text, ids_text, put_text, drop_text, file_meanings}

-- a stored file, as the rules of its table leave it
abbrev IsFileRow : Row → Type 0
IsFileRow r = (column r 1 ≡ Int (int_at r 1)) × (column r 2 ≡ Text (bytes_at r 2))

file_rows : (db : Database) → IsOffice db → AllByRecursion IsFileRow (db.trees file_tree)
file_rows db office = all_both (λ r t p.
    let at = typed_at office_schema db.trees file_table r t p in
    (at 0 refl, at 1 refl)) (db.trees file_tree) (of_files (obeys_rule office.whole Datatype)) (of_files (obeys_rule office.whole NotNull))

-- ---- the tests by the deposit, and by the deposit and the path

abbrev has_deposit : ℤ → Row → Bool
has_deposit n r = int_eq (int_at r 1) n

abbrev has_place : ℤ → List ℕ → Row → Bool
has_place n path r = has_deposit n r && bytes_eq (bytes_at r 2) path

passes_deposit : (n : ℤ) (r : Row) → IsFileRow r → passes (Int n ∷ []) by_deposit r ≡ has_deposit n r
passes_deposit n r it = and-true _ ∙ ap (λ v. is_true (binary (Compare Eq Binary) v (Int n))) it.0 ∙ same_int (int_at r 1) n

passes_place : (n : ℤ) (path : List ℕ) (r : Row) → IsFileRow r → passes (Int n ∷ Text path ∷ []) by_place r ≡ has_place n path r
passes_place n path r it = ap₂ ◌&&◌
    (ap (λ v. is_true (binary (Compare Eq Binary) v (Int n))) it.0 ∙ same_int (int_at r 1) n)
    (and-true _ ∙ ap (λ v. is_true (binary (Compare Eq Binary) v (Text path))) it.1 ∙ same_text (bytes_at r 2) path)

each_of : (db : Database) → IsOffice db → (n : ℤ) → AllByRecursion (λ r. passes (Int n ∷ []) by_deposit r ≡ has_deposit n r) (db.trees file_tree)
each_of db office n = all_from _ (db.trees file_tree) (λ r there. passes_deposit n r (all_has IsFileRow (db.trees file_tree) r (file_rows db office) there))

each_at : (db : Database) → IsOffice db → (n : ℤ) (path : List ℕ) → AllByRecursion (λ r. passes (Int n ∷ Text path ∷ []) by_place r ≡ has_place n path r) (db.trees file_tree)
each_at db office n path = all_from _ (db.trees file_tree) (λ r there. passes_place n path r (all_has IsFileRow (db.trees file_tree) r (file_rows db office) there))

-- two files of one deposit with one path are one row
module _ (db : Database) (office : IsOffice db) (n : ℤ) where
  one_file : (path : List ℕ) (x y : Row) → Has (db.trees file_tree) x → Has (db.trees file_tree) y → has_place n path x ≡ true → has_place n path y ≡ true → x ≡ y
  unfolding first_key
  one_file path x y hx hy px py =
      let rows = file_rows db office in
      let tx = all_has IsFileRow (db.trees file_tree) x rows hx in
      let ty = all_has IsFileRow (db.trees file_tree) y rows hy in
      let apart = all_has _ (db.trees file_tree) y (of_files (obeys_rule office.whole Unique)) hy in
      let key : Row = Int n ∷ Text path ∷ [] in
      let eqx : equal Binary (column x 1) (Int n) ≡ true = ap (λ v. equal Binary v (Int n)) tx.0 ∙ same_int (int_at x 1) n ∙ (and_parts _ _ px).0 in
      let eqy : equal Binary (column y 1) (Int n) ≡ true = ap (λ v. equal Binary v (Int n)) ty.0 ∙ same_int (int_at y 1) n ∙ (and_parts _ _ py).0 in
      let pathx : equal Binary (column x 2) (Text path) ≡ true = ap (λ v. equal Binary v (Text path)) tx.1 ∙ same_text (bytes_at x 2) path ∙ (and_parts _ _ px).1 in
      let pathy : equal Binary (column y 2) (Text path) ≡ true = ap (λ v. equal Binary v (Text path)) ty.1 ∙ same_text (bytes_at y 2) path ∙ (and_parts _ _ py).1 in
      let kx : agree plain (1 ∷ 2 ∷ []) x (0 ∷ 1 ∷ []) key ≡ true = rw (eqx, pathx) refl in
      let ky : agree plain (1 ∷ 2 ∷ []) y (0 ∷ 1 ∷ []) key ≡ true = rw (eqy, pathy) refl in
      let agrees = agree_chain plain (1 ∷ 2 ∷ []) (0 ∷ 1 ∷ []) (1 ∷ 2 ∷ []) x key y kx (agree_back plain (1 ∷ 2 ∷ []) (0 ∷ 1 ∷ []) y key ky) in
      same_key plain (1 ∷ 2 ∷ []) (db.trees file_tree) (of_files office.whole.shaped) x y hx hy (unclashed _ apart) agrees

  pub few_files : (path : List ℕ) → (filter (has_place n path) (db.trees file_tree) ≡ []) ⊎ ((r : Row) × Has (db.trees file_tree) r × (has_place n path r ≡ true) × (filter (has_place n path) (db.trees file_tree) ≡ r ∷ []))
  few_files path = lone (has_place n path) (db.trees file_tree) (db.trees file_tree) (of_files office.whole.shaped).0 (λ r there. there) (one_file path)

-- ---- one file

abbrev content_under : List ContentRow → Row → List ℕ
content_under contents row = bytes_under contents (int_at row 0)

-- the references of the files that pass are those in their rows
pub references_are : (those : FileRow → Bool) (test : Row → Bool) (contents : List ContentRow) → ((r : Row) → those (file_in contents r) ≡ test r) → (rows : List Row)
    → references_where those (map (file_in contents) rows) (map (λ row. int_at row 3) rows) ≡ map (λ row. int_at row 3) (filter test rows)
references_are those test contents tests [] = refl
references_are those test contents tests (r ∷ rows) = elim (cases_Bool (test r)) [
  | inl is ↦ let those_is : those (file_in contents r) ≡ true = tests r ∙ is in rw (those_is, is) (ap (λ more. int_at r 3 ∷ more) (references_are those test contents tests rows))
  | inr isnt ↦ let those_is : those (file_in contents r) ≡ false = tests r ∙ isnt in rw (those_is, isnt) (references_are those test contents tests rows)
]

-- the number of the content of the file at that place
abbrev pub reference_at : Database → ℤ → List ℕ → Option ℤ
reference_at db n path = slice_get (references_where (is_file_at n path) (tables_of db).files (references_of db)) 0

-- the reference of the file at a place is that in the row of that place
reference_is : (db : Database) (n : ℤ) (path : List ℕ) → reference_at db n path ≡ option_map (λ r. int_at r 3) (slice_get (filter (has_place n path) (db.trees file_tree)) 0)
reference_is db n path =
    let stored = db.trees file_tree in
    ap (λ (ids : List ℤ). slice_get ids 0) (references_are (is_file_at n path) (has_place n path) (contents_of db) (λ r. refl) stored) ∙ first (filter (has_place n path) stored)
  where
    first : (rs : List Row) → slice_get (map (λ r. int_at r 3) rs) 0 ≡ option_map (λ r. int_at r 3) (slice_get rs 0)
    first [] = refl
    first (r ∷ rs) = refl

-- the number that the row shows is that of the content
pub finds_content : (old new : State) (n : ℤ) (path : List ℕ) (rows : List Row) → IsOffice old.now → Shown content_text (Int n ∷ Text path ∷ []) old new rows
    → (new.now ≡ old.now) × (option_map (λ (f : FileRow). f.content) (file_at n path (tables_of old.now).files) ≡ option_map (content_under (contents_of old.now)) (slice_get rows 0))
    × (reference_at old.now n path ≡ option_map (λ row. int_at row 0) (slice_get rows 0))
finds_content old new n path rows office h =
    let params : Row = Int n ∷ Text path ∷ [] in
    let stored = old.now.trees file_tree in
    let contents = contents_of old.now in
    let is = reads_one office_schema content_text file_tree by_place (only 3) [] file_meanings.asks_content params old new office.whole.schema_is rows h (has_place n path)
    (each_at old.now office n path) (few_files old.now office n path) in (
      reads_same office_schema content_text file_tree by_place (only 3) [] file_meanings.asks_content params old new office.whole.schema_is rows h,
      finds_part stored rows (has_place n path) (shown_of params (only 3)) (file_in contents) (is_file_at n path) (λ r. refl) is (λ (f : FileRow). f.content) (content_under contents) (λ r. refl),
      reference_is old.now n path ∙ shows_first (filter (has_place n path) stored) ∙ ap (λ rs. option_map (λ row. int_at row 0) (slice_get rs 0)) (sym is),
    )
  where
    shows_first : (rs : List Row) → option_map (λ r. int_at r 3) (slice_get rs 0) ≡ option_map (λ row. int_at row 0) (slice_get (map (shown_of (Int n ∷ Text path ∷ []) (only 3)) rs) 0)
    shows_first [] = refl
    shows_first (r ∷ rs) = refl

-- the numbers of the contents of a deposit's files
pub finds_contents : (old new : State) (n : ℤ) (rows : List Row) → IsOffice old.now → Shown ids_text (Int n ∷ []) old new rows
    → (new.now ≡ old.now) × ((r : Row) → Has (old.now.trees file_tree) r → has_deposit n r ≡ true → Has (map (λ row. int_at row 0) rows) (int_at r 3))
    × ((id : ℤ) → Has (map (λ row. int_at row 0) rows) id → Has (references_within n (tables_of old.now).files (references_of old.now)) id)
    × ((id : ℤ) → Has (references_within n (tables_of old.now).files (references_of old.now)) id → Has (map (λ row. int_at row 0) rows) id)
finds_contents old new n rows office h =
    let params : Row = Int n ∷ [] in
    let db = old.now.trees in
    let each = each_of old.now office n in
    let found = reads_scan office_schema ids_text file_tree by_deposit (only 3) [] file_meanings.asks_ids params old new office.whole.schema_is rows h in
    let all : (r : Row) → Has (db file_tree) r → has_deposit n r ≡ true → Has (map (λ row. int_at row 0) rows) (int_at r 3) = λ r there keeps.
    mapped_has (λ row. int_at row 0) rows _ (answer_complete db params file_tree by_deposit (only 3) [] rows (has_deposit n) found each r there keeps) in
    let within : references_within n (tables_of old.now).files (references_of old.now) ≡ map (λ row. int_at row 3) (filter (has_deposit n) (db file_tree)) =
    references_are (is_file_of n) (has_deposit n) (contents_of old.now) (λ r. refl) (db file_tree) in (
      reads_same office_schema ids_text file_tree by_deposit (only 3) [] file_meanings.asks_ids params old new office.whole.schema_is rows h,
      all,
      λ id there.
          let x = has_mapped (λ row. int_at row 0) rows id there in
          let r = answer_sound db params file_tree by_deposit (only 3) [] rows (has_deposit n) found each x.0 x.1 in
          let is : int_at r.0 3 ≡ id = sym (x.2 ∙ ap (λ row. int_at row 0) r.3) in
          subst₂ (λ ids k. Has ids k) (sym within) is (mapped_has (λ row. int_at row 3) (filter (has_deposit n) (db file_tree)) r.0 (has_kept (has_deposit n) (db file_tree) r.0 r.1 r.2)),
      λ id there.
          let r = has_mapped (λ row. int_at row 3) (filter (has_deposit n) (db file_tree)) id (subst (λ ids. Has ids id) within there) in
          let it = has_filtered (has_deposit n) (db file_tree) r.0 r.1 in
          subst (Has (map (λ row. int_at row 0) rows)) (sym r.2) (all r.0 it.0 it.1),
    )

-- ---- a new file

module _ (old new : State) (n : ℤ) (path : List ℕ) (id : ℤ) (count : ℕ) (office : IsOffice old.now) (h : Executes put_text (Int n ∷ Text path ∷ Int id ∷ []) old new (Ok count)) where
  abbrev put_columns : Row
  put_columns = Int n ∷ Text path ∷ Int id ∷ []

  abbrev put_edit : Edit
  put_edit = edit_of old.now.trees file_table [] Chosen 0 ((Null ∷ put_columns) ∷ [])

  put_change : Changes office_schema old new put_edit count put_edit.news
  put_change = inserts put_text put_columns old new office_schema office.whole.schema_is 6 file_table refl idle (all_given 3) 4 file_meanings.put_means refl refl count h

  put_cast : cast_row file_table (Null ∷ put_columns) ≡ Null ∷ put_columns
  put_cast = rw (cast_null, cast_int n, cast_int id) refl

  put_end : (with_edit put_edit old.now).trees file_tree ≡ old.now.trees file_tree ++ (Int (next_rowid (old.now.trees file_tree)) ∷ put_columns) ∷ []
  put_end = appended old.now.trees file_table (Null ∷ put_columns) put_columns (of_files office.whole.shaped) put_cast

  puts_file : Becomes new.now (with_file (record { deposit = n; path = path; content = bytes_under (contents_of old.now) id }) (tables_of old.now))
  puts_file =
      becomes old new put_edit count put_edit.news office refl put_change _ (ap (λ rows. record (tables_of old.now) { files = rows })
      (ap (map (file_in (contents_of old.now))) put_end ∙ map-append (file_in (contents_of old.now)) (old.now.trees file_tree) _))

  -- so there was no such file
  path_was_new : file_at n path (tables_of old.now).files ≡ None
  path_was_new =
      let stored = old.now.trees file_tree in
      let places : has_place n path (with_rowid Chosen stored (Null ∷ put_columns)) ≡ true = ap₂ ◌&&◌ (int_itself n) (bytes_itself path) in
      let placed : has_place n path (with_rowid Chosen stored (cast_row file_table (Null ∷ put_columns))) ≡ true = ap (λ r. has_place n path (with_rowid Chosen stored r)) put_cast ∙ places in
      let none = none_before office_schema Enforced old.now.trees new.now.trees file_table (Null ∷ put_columns) put_change.applies (has_place n path) placed (one_file new.now puts_file.office n path) in
      found_by (is_file_at n path) (has_place n path) (file_in (contents_of old.now)) stored (all_from _ stored (λ r there. refl)) ∙ ap (λ rs. option_map (file_in (contents_of old.now)) (slice_get rs 0)) none

  pub adds_file : IsFileAdded n path id old.now new.now
  adds_file = record {
    becomes = puts_file;
    contents = contents_after old new put_edit count put_edit.news put_change;
    references = references_after old new put_edit count put_edit.news put_change ∙ ap (map (λ row. int_at row 3)) put_end ∙ map-append (λ row. int_at row 3) (old.now.trees file_tree) _;
    new_path = path_was_new;
  }

-- ---- the files of a deposit are dropped

pub drops_files : (old new : State) (n : ℤ) (count : ℕ) → IsOffice old.now → Executes drop_text (Int n ∷ []) old new (Ok count) → AreFilesDropped n old.now new.now
drops_files old new n count office h =
    let db = old.now.trees in
    let done = drops drop_text (Int n ∷ []) old new office_schema office.whole.schema_is 6 file_table refl idle (of_files office.whole.shaped) by_deposit (only 0)
    (has_deposit n) (each_of old.now office n) file_meanings.drop_means (λ r. refl) count h in
    let edit = edit_of db file_table (ids_of done.answer) Given 0 [] in
    let decode = file_in (contents_of old.now) in
    let others_stay = sym (filter-map (λ f. not (is_file_of n f)) decode (db file_tree)) in
    let rows : new.now.trees file_tree ≡ filter (λ r. not (has_deposit n r)) (db file_tree) = file_rows_after old new edit count _ done.change ∙ done.made in
    record {
      becomes = becomes old new edit count _ office refl done.change _ (ap (λ rows. record (tables_of old.now) { files = rows }) (ap (map decode) done.made ∙ others_stay));
      contents = contents_after old new edit count _ done.change;
      left = ap (map (λ row. int_at row 3)) rows ∙ sym (references_are (λ f. not (is_file_of n f)) (λ r. not (has_deposit n r)) (contents_of old.now) (λ r. refl) (db file_tree));
      references = λ id there.
          let r = has_mapped (λ row. int_at row 3) (db file_tree) id there in
          elim (cases_Bool (has_deposit n r.0)) [
            | inl his ↦ inr (r.0, r.1, his, sym r.2)
            | inr other ↦ inl (subst (Has (references_of new.now)) (sym r.2) (mapped_has (λ row. int_at row 3) (new.now.trees file_tree) r.0 (subst (λ rs. Has rs r.0) (sym rows) (has_kept (λ r. not (has_deposit n r)) (db file_tree) r.0 r.1 (ap not other)))))
          ];
    }

-- ---- the files of a deposit

-- a file of a deposit is alone at its path
pub only_row : (db : Database) → IsOffice db → (n : ℤ) (r : Row) → Has (db.trees file_tree) r → has_deposit n r ≡ true → filter (has_place n (bytes_at r 2)) (db.trees file_tree) ≡ r ∷ []
only_row db office n r there his =
    let path = bytes_at r 2 in
    let placed : has_place n path r ≡ true = ap₂ ◌&&◌ his (bytes_itself path) in
    elim (few_files db office n path) [
      | inl none ↦ absurd (subst (λ rs. Has rs r) none (has_kept (has_place n path) (db.trees file_tree) r there placed))
      | inr one ↦ one.3 ∙ ap (λ (s : Row). s ∷ []) (one_file db office n path one.0 r one.1 there one.2 placed)
    ]

-- it is the one that is found there
pub found_there : (db : Database) → IsOffice db → (n : ℤ) (r : Row) → Has (db.trees file_tree) r → has_deposit n r ≡ true → file_at n (bytes_at r 2) (tables_of db).files ≡ Some (file_in (contents_of db) r)
found_there db office n r there his =
    found_by (is_file_at n (bytes_at r 2)) (has_place n (bytes_at r 2)) (file_in (contents_of db)) (db.trees file_tree) (all_from _ (db.trees file_tree) (λ r there. refl))
    ∙ ap (λ (rs : List Row). option_map (file_in (contents_of db)) (slice_get rs 0)) (only_row db office n r there his)

-- a row that shows its path and the number of its content shows it
shows_file : (db : Database) → IsOffice db → (n : ℤ) (r : Row) → Has (db.trees file_tree) r → has_deposit n r ≡ true → ShowsFile n db (shown_of (Int n ∷ []) files_columns r)
shows_file db office n r there his = record {
  file = found_there db office n r there his ∙ ap (λ (d : ℤ). Some (record { deposit = d; path = bytes_at r 2; content = bytes_under (contents_of db) (int_at r 3) })) (same_number (int_at r 1) n his);
  content = ap (λ id. content_referred id (contents_of db)) (reference_is db n (bytes_at r 2) ∙ ap (λ (rs : List Row). option_map (λ r. int_at r 3) (slice_get rs 0)) (only_row db office n r there his));
}

-- ---- their paths

ascending_has : (R S : Row → Row → Type 0) (xs : List Row) → ((a b : Row) → Has xs a → Has xs b → R a b → S a b) → IsAscending R xs → IsAscending S xs
ascending_has R S [] each up = tt
ascending_has R S (x ∷ xs) each up = (all_from _ xs (λ y there. each x y (inl refl) (inr there) (all_has _ xs y up.0 there)), ascending_has R S xs (λ a b ha hb. each a b (inr ha) (inr hb)) up.1)

abbrev text_cmp : List ℕ → List ℕ → Ordering
text_cmp = slice_cmp nat_cmp

abbrev path_in : Row → List ℕ
path_in r = bytes_at r 2

abbrev shown_by : Row × Row → List ℕ
shown_by o = shown_path o.1

-- what the row is sorted by is its path
abbrev IsByPath : Row × Row → Type 0
IsByPath o = column o.0 0 ≡ Text (shown_by o)

sorted_paths : (os : List (Row × Row)) → AllByRecursion IsByPath os → IsSorted (output_cmp (scan file_tree by_deposit files_columns by_path)) os → IsSorted text_cmp (map shown_by os)
sorted_paths os typed up = sorted_map (λ k d low high.
    let a = slice_index_or os (k + 1) d in
    let b = slice_index_or os k d in
    let ta : IsByPath a = All-from_recursion IsByPath os typed (k + 1) d (omega arith) in
    let tb : IsByPath b = All-from_recursion IsByPath os typed k d (omega arith) in
    let same : output_cmp (scan file_tree by_deposit files_columns by_path) a b ≡ text_cmp (shown_by a) (shown_by b) =
    then-Equal (value_cmp (column a.0 0) (column b.0 0)) ∙ subst₂ (λ v w. value_cmp v w ≡ text_cmp (shown_by a) (shown_by b)) (sym ta) (sym tb) (value_cmp-Text (shown_by a) (shown_by b)) in
    subst (λ o. is_lt o ≡ false) same (up k d low high))
  where
    sorted_map : IsSorted (λ a b. text_cmp (shown_by a) (shown_by b)) os → IsSorted text_cmp (map shown_by os)
    sorted_map = IsSorted-map text_cmp shown_by os

text_total : IsTotalOrder text_cmp
text_total = on_texts (λ (t : List ℕ). t)

path_total : IsTotalOrder path_cmp
path_total = on_texts (λ (f : FileRow). f.path)

-- two files of one deposit have two paths
untied : (db : Database) → IsOffice db → (n : ℤ) (a b : Row) → Has (db.trees file_tree) a × (has_deposit n a ≡ true) → Has (db.trees file_tree) b × (has_deposit n b ≡ true) → value_cmp (rowid a) (rowid b) ≡ Less
    → is_eq (text_cmp (path_in a) (path_in b)) ≡ false
untied db office n a b ha hb below = elim (cases_Bool (is_eq (text_cmp (path_in a) (path_in b)))) [
  | inl tie ↦ absurd (
      let alike : bytes_eq (bytes_at a 2) (bytes_at b 2) ≡ true = sym (is_eq-slice_cmp (bytes_at a 2) (bytes_at b 2)) ∙ tie in
      let itself : bytes_eq (bytes_at b 2) (bytes_at b 2) ≡ true = bytes_itself (bytes_at b 2) in
      let one : a ≡ b = one_file db office n (bytes_at b 2) a b ha.0 hb.0 (rw (ha.1, alike) refl) (rw (hb.1, itself) refl) in
      let equal_is : value_cmp (rowid a) (rowid a) ≡ Equal = tied_itself value_cmp_total (rowid a) in
      let less : value_cmp (rowid a) (rowid a) ≡ Less = subst (λ x. value_cmp (rowid a) (rowid x) ≡ Less) (sym one) below in
      cc)
  | inr apart ↦ apart
]

pub lists_files : (old new : State) (n : ℤ) (rows : List Row) → IsOffice old.now → Shown files_text (Int n ∷ []) old new rows
    → (new.now ≡ old.now) × (map (λ (f : FileRow). f.path) (files_by_path n (tables_of old.now)) ≡ map shown_path rows) × AllByRecursion (ShowsFile n old.now) rows
lists_files old new n rows office h =
    let params : Row = Int n ∷ [] in
    let db = old.now.trees in
    let q = scan file_tree by_deposit files_columns by_path in
    let found = reads_scan office_schema files_text file_tree by_deposit files_columns by_path file_meanings.asks_files params old new office.whole.schema_is rows h in
    let typed = file_rows old.now office in
    let keep = has_deposit n in
    let kept = filter keep (db file_tree) in
    let out : Row → Row × Row = λ r. output q (params ∷ r ∷ []) in
    let passed : filter (passes params by_deposit) (db file_tree) ≡ kept = filter_same (passes params by_deposit) keep (db file_tree) (each_of old.now office n) in
    let same : IsPermutation (map out kept) found.ordered = subst (λ rs. IsPermutation (map out rs) found.ordered) passed found.same in
    let typed_out : AllByRecursion IsByPath (map out kept) = all_map IsByPath out kept (all_from (λ r. IsByPath (out r)) kept (λ r there. (all_has IsFileRow (db file_tree) r typed (has_filtered keep (db file_tree) r there).0).1)) in
    let typed_ordered : AllByRecursion IsByPath found.ordered = recursion_from_All IsByPath found.ordered (All-permutation IsByPath (map out kept) found.ordered same (All-from_recursion IsByPath (map out kept) typed_out)) in
    let up = sorted_paths found.ordered typed_ordered found.sorted in
    let as_paths : map shown_by (map out kept) ≡ map path_in kept = map-map shown_by out kept in
    let moved : IsPermutation (map path_in kept) (map shown_by found.ordered) = subst (λ xs. IsPermutation xs (map shown_by found.ordered)) as_paths (IsPermutation-map shown_by (map out kept) found.ordered same) in
    let apart : IsAscending (λ a b. is_eq (text_cmp (path_in a) (path_in b)) ≡ false) kept = ascending_has (λ a b. value_cmp (rowid a) (rowid b) ≡ Less) (λ a b. is_eq (text_cmp (path_in a) (path_in b)) ≡ false) kept
    (λ a b ha hb below. untied old.now office n a b (has_filtered keep (db file_tree) a ha) (has_filtered keep (db file_tree) b hb) below)
    (ascending-filter (λ a b. value_cmp (rowid a) (rowid b) ≡ Less) keep (db file_tree) (of_files office.whole.shaped).0) in
    let distinct = ascending-map (λ s t. is_eq (text_cmp s t) ≡ false) path_in kept apart in
    let sorted_is : map shown_by found.ordered ≡ sort_by text_cmp (map path_in kept) = sorted_is-sort_by text_cmp text_total (map path_in kept) (map shown_by found.ordered) distinct moved up in
    let decode = file_in (contents_of old.now) in
    let files = filter (is_file_of n) (map decode (db file_tree)) in
    let paths_are : map (λ (f : FileRow). f.path) files ≡ map path_in kept = ap (map (λ (f : FileRow). f.path)) (filter-map (is_file_of n) decode (db file_tree)) ∙ map-map (λ (f : FileRow). f.path) decode kept in
    let in_order : map (λ (f : FileRow). f.path) (sort_by path_cmp files) ≡ sort_by text_cmp (map path_in kept) = sym (sort_by-map text_cmp (λ (f : FileRow). f.path) files) ∙ ap (sort_by text_cmp) paths_are in
    let rows_are : map shown_path rows ≡ map shown_by found.ordered = ap (map shown_path) found.shown ∙ map-map shown_path (λ (o : Row × Row). o.1) found.ordered in (
      reads_same office_schema files_text file_tree by_deposit files_columns by_path file_meanings.asks_files params old new office.whole.schema_is rows h,
      in_order ∙ sym sorted_is ∙ sym rows_are,
      all_from (ShowsFile n old.now) rows (λ x there.
          let r = answer_sound db params file_tree by_deposit files_columns by_path rows keep found (each_of old.now office n) x there in
          subst (ShowsFile n old.now) (sym r.3) (shows_file old.now office n r.0 r.1 r.2)),
    )

-- ---- the files at these paths

same_file : (d e : ℤ) (p q b c : List ℕ) → d ≡ e → p ≡ q → b ≡ c → ◌≡◌ {A = FileRow} (record { deposit = d; path = p; content = b }) (record { deposit = e; path = q; content = c })
same_file d e p q b c number place content = rw (number, place, content) refl

is_found : (n : ℤ) (path : List ℕ) (files : List FileRow) (x : FileRow) (found : Option FileRow) → file_at n path files ≡ found → x.deposit ≡ n → x.path ≡ path
    → Some x.content ≡ option_map (λ (f : FileRow). f.content) found → Some x ≡ found
is_found n path files x None is number place content = absurd cc
is_found n path files x (Some f) is number place content =
    let its_content : x.content ≡ f.content = cc in
    let passed : is_file_at n path f ≡ true = (has_found (is_file_at n path) files f is).1 in
    let its_number : f.deposit ≡ n = same_number f.deposit n (and_parts (is_file_of n f) (bytes_eq f.path path) passed).0 in
    let its_path : f.path ≡ path = (bytes_eq-Decides f.path path).0 (and_parts (is_file_of n f) (bytes_eq f.path path) passed).1 in
    ap Some (same_file x.deposit f.deposit x.path f.path x.content f.content (number ∙ sym its_number) (place ∙ sym its_path) its_content)

-- one path more
pub finds_next : (find : Row → Option FileRow) (rows : List Row) (i : ℕ) (row : Row) (files : List FileRow) (x : FileRow) → row ≡ get_or rows i row → i < length rows
    → map Some files ≡ map find (take i rows) → Some x ≡ find row → map Some (files ++ x ∷ []) ≡ map find (take (i + 1) rows)
finds_next find rows i row files x is low before here =
    map_push Some files x ∙ ap₂ (λ xs y. xs ++ y ∷ []) before (here ∙ ap find is) ∙ sym (map_more find rows i row low)

module _ (db : Database) (office : IsOffice db) (n : ℤ) where
  abbrev stored : List Row
  stored = db.trees file_tree

  abbrev decode : Row → FileRow
  decode = file_in (contents_of db)

  abbrev IsFound : FileRow → Type 0
  IsFound f = file_at n f.path (tables_of db).files ≡ Some f

  -- each is the one at its path
  pub each_found : AllByRecursion IsFound (files_by_path n (tables_of db))
  each_found =
      let kept = filter (has_deposit n) stored in
      let files = filter (is_file_of n) (map decode stored) in
      let all_kept : AllByRecursion IsFound (map decode kept) = all_map IsFound decode kept (all_from (λ r. IsFound (decode r)) kept (λ r there. let it = has_filtered (has_deposit n) stored r there in found_there db office n r it.0 it.1)) in
      let all_files : AllByRecursion IsFound files = subst (AllByRecursion IsFound) (sym (filter-map (is_file_of n) decode stored)) all_kept in
      all-permutation IsFound files (sort_by path_cmp files) (IsPermutation-sym (sort_by path_cmp files) files (IsPermutation-sort_by path_cmp path_total files)) all_files

  -- the files at the paths of the deposit's files are these files
  pub gathers_files : (rows : List Row) (files : List FileRow) → map (λ (f : FileRow). f.path) (files_by_path n (tables_of db)) ≡ map shown_path rows
      → map Some files ≡ map (λ row. file_at n (shown_path row) (tables_of db).files) rows → files ≡ files_by_path n (tables_of db)
  gathers_files rows files paths found =
      let all = files_by_path n (tables_of db) in
      let at : List ℕ → Option FileRow = λ path. file_at n path (tables_of db).files in
      let by_rows : map at (map shown_path rows) ≡ map (λ row. at (shown_path row)) rows = map-map at shown_path rows in
      let by_paths : map at (map (λ (f : FileRow). f.path) all) ≡ map (λ f. at f.path) all = map-map at (λ (f : FileRow). f.path) all in
      map_back Some same_Some files all (found ∙ sym by_rows ∙ ap (map at) (sym paths) ∙ by_paths ∙ map_alike (λ f. at f.path) Some all (λ f there. all_has IsFound all f each_found there))

-- a file that is found at a path of the deposit is one of its files
found_listed : (n : ℤ) (path : List ℕ) (t : Tables) (f : FileRow) → file_at n path t.files ≡ Some f → Has (files_by_path n t) f × (f.path ≡ path)
found_listed n path t f is =
    let it = has_found (is_file_at n path) t.files f is in
    let parts = and_parts (is_file_of n f) (bytes_eq f.path path) it.1 in
    let ordered = files_by_path n t in
    let of = filter (is_file_of n) t.files in
    let each : AllByRecursion (Has ordered) of = all-permutation (Has ordered) ordered of (IsPermutation-sort_by path_cmp path_total of) (all_from (Has ordered) ordered (λ g there. there)) in
    (all_has (Has ordered) of f each (has_kept (is_file_of n) t.files f it.0 parts.0), (bytes_eq-Decides f.path path).0 parts.1)

-- where the content of each file of the deposit is intact, none is altered
pub none_altered : (db : Database) (n : ℤ) → list_all (λ (f : FileRow). is_intact (content_at n f.path (tables_of db).files (references_of db) (contents_of db))) (files_by_path n (tables_of db)) ≡ true → HasAltered n db → ⊥
none_altered db n intact (path, it) = by (file_at n path (tables_of db).files) refl it.there
  where
    by : (found : Option FileRow) → file_at n path (tables_of db).files ≡ found → IsSome found → ⊥
    by None is there = absurd (let no : false ≡ true = there in cc)
    by (Some f) is there =
        let at = found_listed n path (tables_of db) f is in
        let here = test_has (λ (g : FileRow). is_intact (content_at n g.path (tables_of db).files (references_of db) (contents_of db))) (files_by_path n (tables_of db)) f intact at.0 in
        let same = ap (λ place. is_intact (content_at n place (tables_of db).files (references_of db) (contents_of db))) at.1 in
        let clash : true ≡ false = sym here ∙ same ∙ it.altered in absurd cc

-- ---- which content a file has

module _ (db : Database) (office : IsOffice db) (n : ℤ) (path : List ℕ) where
  -- the content of the file at that place, where there is one
  abbrev its_content : Option ContentRow
  its_content = content_at n path (tables_of db).files (references_of db) (contents_of db)

  at_row : (row : Row) → slice_get (filter (has_place n path) (db.trees file_tree)) 0 ≡ Some row → (c : ContentRow) × (its_content ≡ Some c) × (bytes_under (contents_of db) (int_at row 3) ≡ c.bytes) × Has (contents_of db) c
  at_row row first =
      let there = (has_filtered (has_place n path) (db.trees file_tree) row (has_first (filter (has_place n path) (db.trees file_tree)) row first)).0 in
      let c = fetched db office row there in
      let reference : reference_at db n path ≡ Some (int_at row 3) = reference_is db n path ∙ ap (option_map (λ r. int_at r 3)) first in (
        c.0,
        ap (λ id. content_referred id (contents_of db)) reference ∙ c.1,
        ap (λ (o : Option ContentRow). unwrap_or (option_map (λ c. c.bytes) o) []) c.1,
        c.2,
      )
    where
      has_first : (rs : List Row) (r : Row) → slice_get rs 0 ≡ Some r → Has rs r
      has_first [] r is = absurd cc
      has_first (q ∷ rs) r is = inl (sym (same_Some q r is))

  -- a file has a content, and its bytes are that content's
  pub has_content : (f : FileRow) → file_at n path (tables_of db).files ≡ Some f → (c : ContentRow) × (its_content ≡ Some c) × (f.content ≡ c.bytes) × Has (contents_of db) c
  has_content f is =
      let stored = db.trees file_tree in
      let first = found_by (is_file_at n path) (has_place n path) (file_in (contents_of db)) stored (all_from _ stored (λ r there. refl)) in
      by (slice_get (filter (has_place n path) stored) 0) refl (sym first ∙ is)
    where
      by : (o : Option Row) → slice_get (filter (has_place n path) (db.trees file_tree)) 0 ≡ o → option_map (file_in (contents_of db)) o ≡ Some f
          → (c : ContentRow) × (its_content ≡ Some c) × (f.content ≡ c.bytes) × Has (contents_of db) c
      by None first found = absurd cc
      by (Some row) first found =
          let it = at_row row first in
          let same : file_in (contents_of db) row ≡ f = same_Some (file_in (contents_of db) row) f found in
          (it.0, it.1, ap (λ (g : FileRow). g.content) (sym same) ∙ it.2, it.3)

  -- which is intact where contents are stored once
  pub has_intact : StoresOnce db → (f : FileRow) → file_at n path (tables_of db).files ≡ Some f → is_intact its_content ≡ true
  has_intact kept f is =
      let it = has_content f is in
      let marked : it.0.mark ≡ sha256 it.0.bytes = (all_has IsMarked (contents_of db) it.0 kept.marked it.3).mark in
      ap is_intact it.1 ∙ (bytes_eq-Decides it.0.mark (sha256 it.0.bytes)).1 marked
