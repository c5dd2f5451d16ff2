-- What the rows of an office tell where they differ in the bytes of contents alone.
use Rattle.office_tables.proofs.Common.{◌≡◌, ◌&&◌, ℕ, ℤ, Bool, true, false, cond, List, [], ◌∷◌, map, filter, slice_get, bytes_eq, Option, Some, None, option_map, unwrap_or, refl, sym, ap, subst, ◌∙◌, inl, inr, true≢false, AllByRecursion, int_eq, same_Some, bytes_eq-Decides, sha256, Row, Database, filter-map, Has, all_from, all_has, has_filtered, has_found, mapped_has, bytes_at, int_at, found_by, ContentRow, FileRow, bytes_under, content_numbered, file_at, files_of, is_content, is_file_at, is_file_of, DiffersInBytes, IsMarked, content_at, content_referred, is_intact, references_of, without_bytes, caller_tree, class_tree, collection_tree, deposit_tree, file_tree, hold_tree, office_tree, rule_tree, IsOffice, caller_in, class_in, collection_in, contents_of, deposit_in, due_in, file_in, hold_in, office_in, rule_in, tables_of}
use Rattle.office_contents.proofs.FileLemmas.{only_row, references_are}

abbrev referred : Row → ℤ
referred r = int_at r 3

abbrev is_placed : ℤ → List ℕ → Row → Bool
is_placed n path r = int_eq (int_at r 1) n && bytes_eq (bytes_at r 2) path

abbrev pub digested : FileRow → List ℕ × List ℕ
digested f = (f.path, sha256 f.content)

abbrev digest : Option FileRow → Option (List ℕ)
digest = option_map (λ (f : FileRow). sha256 f.content)

-- ---- where the bytes differ

module _ (old new : Database) (office : IsOffice old) (differs : DiffersInBytes old new) (marked : AllByRecursion IsMarked (contents_of old)) where
  -- the other tables are the same
  pub other_tables : tables_of new ≡ record (tables_of old) { files = (tables_of new).files }
  other_tables i = record {
    office = map office_in (differs.others office_tree (λ e. absurd cc) i);
    callers = map caller_in (differs.others caller_tree (λ e. absurd cc) i);
    rules = map rule_in (differs.others rule_tree (λ e. absurd cc) i);
    classes = map class_in (differs.others class_tree (λ e. absurd cc) i);
    collections = map collection_in (differs.others collection_tree (λ e. absurd cc) i);
    deposits = map deposit_in (differs.others deposit_tree (λ e. absurd cc) i);
    dues = map due_in (differs.others deposit_tree (λ e. absurd cc) i);
    files = (tables_of new).files;
    holds = map hold_in (differs.others hold_tree (λ e. absurd cc) i);
  }

  without : (id : ℤ) (xs : List ContentRow) → content_numbered id (map without_bytes xs) ≡ option_map without_bytes (content_numbered id xs)
  without id [] = refl
  without id (x ∷ xs) = by (is_content id x) (without id xs)
    where
      by : (b : Bool) → content_numbered id (map without_bytes xs) ≡ option_map without_bytes (content_numbered id xs)
          → cond b (Some (without_bytes x)) (content_numbered id (map without_bytes xs)) ≡ option_map without_bytes (cond b (Some x) (content_numbered id xs))
      by true rest = refl
      by false rest = rest

  -- what is under its SHA-256 has that of the bytes that were there
  same_digest : (id : ℤ) → is_intact (content_numbered id (contents_of new)) ≡ true → sha256 (bytes_under (contents_of new) id) ≡ sha256 (bytes_under (contents_of old) id)
  same_digest id intact = by (content_numbered id (contents_of new)) (content_numbered id (contents_of old)) refl (sym (without id (contents_of new)) ∙ ap (content_numbered id) differs.contents ∙ without id (contents_of old)) intact
    where
      by : (o p : Option ContentRow) → content_numbered id (contents_of old) ≡ p → option_map without_bytes o ≡ option_map without_bytes p → is_intact o ≡ true
          → sha256 (unwrap_or (option_map (λ (c : ContentRow). c.bytes) o) []) ≡ sha256 (unwrap_or (option_map (λ (c : ContentRow). c.bytes) p) [])
      by None p is alike intact = absurd (true≢false (sym intact))
      by (Some c) None is alike intact = absurd cc
      by (Some c) (Some d) is alike intact =
          sym ((bytes_eq-Decides c.mark (sha256 c.bytes)).0 intact) ∙ ap (λ (x : ContentRow). x.mark) (same_Some _ _ alike) ∙ (all_has IsMarked (contents_of old) d marked (has_found (is_content id) (contents_of old) d is).0).mark

  -- the same rows of files, by the contents of each
  abbrev file_now : Row → FileRow
  file_now = file_in (contents_of new)

  abbrev file_then : Row → FileRow
  file_then = file_in (contents_of old)

  abbrev files_in : List Row → List FileRow
  files_in = map file_now

  abbrev content_among : List Row → ℤ → List ℕ → Option ContentRow
  content_among rows n path = content_at n path (files_in rows) (map referred rows) (contents_of new)

  content_is : (rows : List Row) (n : ℤ) (path : List ℕ) → content_among rows n path ≡ content_referred (slice_get (map referred (filter (is_placed n path) rows)) 0) (contents_of new)
  content_is rows n path = ap (λ ids. content_referred (slice_get ids 0) (contents_of new)) (references_are (is_file_at n path) (is_placed n path) (contents_of new) (λ r. refl) rows)

  of_old_rows : new.trees file_tree ≡ old.trees file_tree
  of_old_rows = differs.others file_tree (λ e. absurd cc)

  found_in : (contents : List ContentRow) (n : ℤ) (path : List ℕ) → file_at n path (map (file_in contents) (old.trees file_tree)) ≡ option_map (file_in contents) (slice_get (filter (is_placed n path) (old.trees file_tree)) 0)
  found_in contents n path = found_by (is_file_at n path) (is_placed n path) (file_in contents) (old.trees file_tree) (all_from _ (old.trees file_tree) (λ r there. refl))

  -- the file at a path, where its content is intact, has the SHA-256 that it had
  pub same_file : (n : ℤ) (path : List ℕ) → is_intact (content_at n path (tables_of new).files (references_of new) (contents_of new)) ≡ true → digest (file_at n path (tables_of new).files) ≡ digest (file_at n path (tables_of old).files)
  same_file n path = subst (λ rows. is_intact (content_among rows n path) ≡ true → digest (file_at n path (files_in rows)) ≡ digest (file_at n path (tables_of old).files)) (sym of_old_rows) (λ intact.
      ap digest (found_in (contents_of new) n path) ∙ by (filter (is_placed n path) (old.trees file_tree)) (sym (ap is_intact (content_is (old.trees file_tree) n path)) ∙ intact) ∙ sym (ap digest (found_in (contents_of old) n path)))
    where
      by : (rs : List Row) → is_intact (content_referred (slice_get (map referred rs) 0) (contents_of new)) ≡ true → digest (option_map file_now (slice_get rs 0)) ≡ digest (option_map file_then (slice_get rs 0))
      by [] none = absurd (true≢false (sym none))
      by (r ∷ more) one = ap Some (same_digest (referred r) one)

  same_rows : (rs : List Row) → ((r : Row) → Has rs r → is_intact (content_numbered (referred r) (contents_of new)) ≡ true) → map digested (files_in rs) ≡ map digested (map file_then rs)
  same_rows [] each = refl
  same_rows (r ∷ rs) each = λ i. (bytes_at r 2, same_digest (referred r) (each r (inl refl)) i) ∷ same_rows rs (λ s there. each s (inr there)) i

  abbrev AreIntact : ℤ → List Row → Type 0
  AreIntact n rows = AllByRecursion (λ (f : FileRow). is_intact (content_among rows n f.path) ≡ true) (filter (is_file_of n) (files_in rows))

  -- the files of a deposit, where each content is intact, have the paths and the SHA-256 that they had
  pub same_files : (n : ℤ) → AllByRecursion (λ (f : FileRow). is_intact (content_at n f.path (tables_of new).files (references_of new) (contents_of new)) ≡ true) (files_of n (tables_of new))
      → map digested (files_of n (tables_of new)) ≡ map digested (files_of n (tables_of old))
  same_files n = subst (λ rows. AreIntact n rows → map digested (filter (is_file_of n) (files_in rows)) ≡ map digested (files_of n (tables_of old))) (sym of_old_rows) (λ intact.
      let rows = old.trees file_tree in
      let those : Row → Bool = λ r. int_eq (int_at r 1) n in
      let each = subst (AllByRecursion (λ (f : FileRow). is_intact (content_among rows n f.path) ≡ true)) (filter-map (is_file_of n) file_now rows) intact in
      ap (map digested) (filter-map (is_file_of n) file_now rows)
      ∙ same_rows (filter those rows) (λ r there.
      let his = has_filtered those rows r there in
      sym (ap is_intact (content_is rows n (bytes_at r 2) ∙ ap (λ (rs : List Row). content_referred (slice_get (map referred rs) 0) (contents_of new)) (only_row old office n r his.0 his.1)))
      ∙ all_has _ (map file_now (filter those rows)) (file_now r) each (mapped_has file_now (filter those rows) r there))
      ∙ sym (ap (map digested) (filter-map (is_file_of n) file_then rows)))
