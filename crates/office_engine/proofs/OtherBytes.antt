-- What is served where bytes of contents differ from those that were deposited: those that were deposited, or none.
use Rattle.office_engine.proofs.Common.{◌≡◌, ℕ, ℤ, pos, Bool, true, false, if◌then◌else◌, List, [], ◌∷◌, map, Option, Some, None, is_none, option_map, refl, sym, ap, subst, ◌∙◌, true≢false, AllByRecursion, list_all, and_parts, same_Some, bytes_eq-Decides, is_good, File, set_text, Database, map-map, all_from, all_has, ◌>>=◌, Answer, Refusal, Request, DownloadBag, DownloadFile, ContentRow, FileRow, Tables, file_at, this_version, DiffersInBytes, content_at, is_intact, references_of, IsOffice, contents_of, tables_of, each_found, file_answer, History, picture, IsLegal, content_stored, files_by_path, path_cmp, stored_files, Visit, allowed_rows, serve, serve_unless, Rows, is_intact_at, rows_of, Pictures, serve_rows, files_of, allowed_answer, refusal}
use Rattle.bag_text.specs.BagList.{list_fault}
use Rattle.std.specs.Cmp.Lexicographic.{on_texts, slice_cmp}
use Rattle.std.specs.Ordering.{nat_cmp}
use Rattle.sha2.specs.Sha256.{sha256}
use denote.Ref.{Bor}
use Rattle.sqlite_keyed.specs.Lists.{sort_by}
use Rattle.sqlite_keyed.proofs.SortLemmas.{IsPermutation-sort_by, sort_by-map}
use Rattle.sqlite_trees.proofs.ListLemmas.{all-permutation}
use Rattle.office_core.specs.declared.answer.Answer.TheVariants as answers
use Rattle.office_tables.proofs.OtherBytes.{digested as row_digested, other_tables, same_file, same_files}
use Rattle.office_by_rows.specs.Answers as told
use Rattle.office_refines.specs.Refining.{HasBagOf, refusal_before}
use Rattle.office_engine.specs.OtherBytes.{AreUnderDigests, HasDigestAt, HasDigestsOf, IsUnderDigest, digested}
use Rattle.office_engine.proofs.RowsAccepted.{both_told}
use Rattle.office_engine.proofs.StepsByRows.{served_parts}

all_passed : {X : Type 0} (p : X → Bool) (xs : List X) → list_all p xs ≡ true → AllByRecursion (λ x. p x ≡ true) xs
all_passed p [] e = tt
all_passed p (x ∷ xs) e = let both = and_parts _ _ e in (both.0, all_passed p xs both.1)

-- the files of a deposit, in the order of their paths or not
all_sorted : (P : FileRow → Type 0) (n : ℤ) (t : Tables) → AllByRecursion P (files_by_path n t) → AllByRecursion P (files_of n t)
all_sorted P n t = all-permutation P (files_by_path n t) (files_of n t) (IsPermutation-sort_by path_cmp (on_texts (λ (f : FileRow). f.path)) (files_of n t))

-- files with the same paths and digests, in the order of their paths
digests_sorted : (fs : List FileRow) → map digested (map told.file_in (sort_by path_cmp fs)) ≡ sort_by (λ (p q : List ℕ × List ℕ). slice_cmp nat_cmp p.0 q.0) (map row_digested fs)
digests_sorted fs = map-map digested told.file_in (sort_by path_cmp fs) ∙ sym (sort_by-map (λ (p q : List ℕ × List ℕ). slice_cmp nat_cmp p.0 q.0) row_digested fs)

-- ---- what is served

abbrev pub is_refused : Answer → Bool
is_refused (answers.Refused why) = true
is_refused _ = false

abbrev bytes_in : Answer → List ℕ
bytes_in (answers.File bytes) = bytes
bytes_in (answers.Bag bytes) = bytes
bytes_in _ = []

-- an answer that is no refusal is what is answered where nothing stands
pub unrefused : (t : Tables) (visit : Visit) (request : Request) (given : Answer) (next : Tables) → ((why : Refusal) → answers.Refused why ≡ given → ⊥) → serve t visit request ≡ Some (given, next)
    → (refusal t visit request ≡ Some None) × (allowed_answer t visit request ≡ Some given)
unrefused t visit request given next not = by (refusal t visit request)
  where
    by : (stands : Option (Option Refusal)) → (stands >>= λ why. serve_unless why t visit request) ≡ Some (given, next) → (stands ≡ Some None) × (allowed_answer t visit request ≡ Some given)
    by None e = absurd cc
    by (Some (Some why)) e = absurd (not why (ap (λ (q : Answer × Tables). q.0) (same_Some _ _ e)))
    by (Some None) e = (refl, (both_told (allowed_answer t visit request) (allowed_rows t visit request) given next e).0)

pub content_told : (o : Option (List ℕ)) (bytes : List ℕ) → Some (file_answer o) ≡ Some (answers.File bytes) → o ≡ Some bytes
content_told None bytes e = absurd (true≢false (ap is_refused (same_Some _ _ e)))
content_told (Some content) bytes e = ap Some (ap bytes_in (same_Some _ _ e))

pub file_told : (b : Bool) (o : Option FileRow) (bytes : List ℕ) → (if b then option_map (λ (f : FileRow). f.content) o else None) ≡ Some bytes → (f : FileRow) × (o ≡ Some f) × (f.content ≡ bytes)
file_told true (Some f) bytes e = (f, refl, same_Some _ _ e)
file_told _ _ bytes e = absurd cc

-- another content at the same place, of the same digest
other_content : (bytes : List ℕ) (b : Bool) (o p : Option FileRow) → option_map (λ (f : FileRow). sha256 f.content) o ≡ option_map (λ (f : FileRow). sha256 f.content) p → (if b then option_map (λ (f : FileRow). f.content) o else None) ≡ Some bytes
    → (kept : List ℕ) × ((if b then option_map (λ (f : FileRow). f.content) p else None) ≡ Some kept) × (sha256 bytes ≡ sha256 kept)
other_content bytes true (Some f) (Some g) same e = (g.content, refl, ap sha256 (sym (same_Some _ _ e)) ∙ same_Some _ _ same)
other_content bytes _ _ _ same e = absurd cc

form_told : (b : Bool) (files : List File) (bytes : List ℕ) → (if b then Some (answers.Bag (set_text files)) else None) ≡ Some (answers.Bag bytes) → bytes ≡ set_text files
form_told true files bytes e = sym (ap bytes_in (same_Some _ _ e))
form_told false files bytes e = absurd cc

all_mapped : {X Y : Type 0} (f : X → Y) (P : Y → Type 0) (xs : List X) → AllByRecursion (λ x. P (f x)) xs → AllByRecursion P (map f xs)
all_mapped f P [] all = tt
all_mapped f P (x ∷ xs) all = (all.0, all_mapped f P xs all.1)

abbrev pub RefusalsAreExact : Type 0
RefusalsAreExact = (h : History) (visit : Visit) (request : Request) → IsLegal h → refusal (picture this_version h) visit request ≡ Some (refusal_before h visit.day visit.caller request)

abbrev pub FilesAreExact : Type 0
FilesAreExact = (h : History) (visit : Visit) (n : ℕ) → IsLegal h → refusal_before h visit.day visit.caller (DownloadBag n) ≡ None → HasBagOf h n (picture this_version h)

abbrev pub HaveContents : Database → Type 0
HaveContents db = (n : ℤ) (path : List ℕ) (f : FileRow) → file_at n path (tables_of db).files ≡ Some f
    → (c : ContentRow) × (content_at n path (tables_of db).files (references_of db) (contents_of db) ≡ Some c) × (f.content ≡ c.bytes)

module _ (db altered : Database) (h : History) (legal : IsLegal h) (pictured : Pictures h db) (differs : DiffersInBytes db altered) (refusing : RefusalsAreExact) (filed : FilesAreExact) (visit : Visit) where
  abbrev was : Tables
  was = tables_of db

  abbrev now : Tables
  now = tables_of altered

  -- where nothing stands against the download, the history has the bag
  bag_there : (n : ℕ) → refusal now visit (DownloadBag n) ≡ Some None → HasBagOf h n was
  bag_there n none =
      let same = ap (λ t. refusal t visit (DownloadBag n)) (other_tables db altered pictured.office differs pictured.once.marked) in
      let free = same_Some _ _ (sym (refusing h visit (DownloadBag n) legal) ∙ ap (λ t. refusal t visit (DownloadBag n)) (sym pictured.are) ∙ sym same ∙ none) in
      subst (HasBagOf h n) (sym pictured.are) (filed h visit n legal free)

  pub file_served : (n : ℕ) (path : Bor (List ℕ)) (bytes : List ℕ) (next : Rows) → serve_rows (rows_of altered) visit (DownloadFile n path) ≡ Some (answers.File bytes, next) → HasDigestAt h n path.now bytes
  file_served n path bytes next is =
      let parts = served_parts (rows_of altered) visit (DownloadFile n path) (answers.File bytes) next is in
      let free = unrefused now visit (DownloadFile n path) (answers.File bytes) next.tables (λ why e. true≢false (ap is_refused e)) parts.0 in
      let it = bag_there n free.0 in
      let kept = other_content bytes (is_good path.now) (file_at (pos n) path.now now.files) (file_at (pos n) path.now was.files)
      (same_file db altered pictured.office differs pictured.once.marked (pos n) path.now parts.1) (content_told (content_stored n path.now now) bytes free.1) in
      record { found = it.found; there = it.there; kept = kept.0; is_kept = sym (it.contents path.now) ∙ kept.1; same = kept.2 }

  pub bag_served : (n : ℕ) (bytes : List ℕ) (next : Rows) → serve_rows (rows_of altered) visit (DownloadBag n) ≡ Some (answers.Bag bytes, next) → HasDigestsOf h n bytes
  bag_served n bytes next is =
      let parts = served_parts (rows_of altered) visit (DownloadBag n) (answers.Bag bytes) next is in
      let free = unrefused now visit (DownloadBag n) (answers.Bag bytes) next.tables (λ why e. true≢false (ap is_refused e)) parts.0 in
      let it = bag_there n free.0 in
      let intact = all_sorted _ (pos n) now (all_passed (λ (f : FileRow). is_intact_at n f.path (rows_of altered)) (files_by_path (pos n) now) parts.1) in
      record {
        found = it.found;
        there = it.there;
        files = stored_files n now;
        form = form_told (is_none (list_fault (stored_files n now))) (stored_files n now) bytes free.1;
        same =
            digests_sorted (files_of (pos n) now)
            ∙ ap (sort_by (λ (p q : List ℕ × List ℕ). slice_cmp nat_cmp p.0 q.0)) (same_files db altered pictured.office differs pictured.once.marked (pos n) intact)
            ∙ sym (digests_sorted (files_of (pos n) was))
            ∙ ap (map digested) it.files;
      }

-- ---- whatever rows an office has

module _ (db : Database) (office : IsOffice db) (has_content : HaveContents db) (visit : Visit) where
  abbrev stored : Tables
  stored = tables_of db

  under_digest : (n : ℕ) (path : List ℕ) (f : FileRow) → file_at (pos n) path stored.files ≡ Some f → is_intact_at n path (rows_of db) ≡ true → IsUnderDigest db n path f.content
  under_digest n path f there intact =
      let c = has_content (pos n) path f there in
      record {
        row = c.0;
        there = c.1;
        bytes_are = sym c.2;
        mark = (bytes_eq-Decides c.0.mark (sha256 c.0.bytes)).0 (sym (ap is_intact c.1) ∙ intact) ∙ ap sha256 (sym c.2);
      }

  pub file_under : (n : ℕ) (path : Bor (List ℕ)) (bytes : List ℕ) (next : Rows) → serve_rows (rows_of db) visit (DownloadFile n path) ≡ Some (answers.File bytes, next) → IsUnderDigest db n path.now bytes
  file_under n path bytes next is =
      let parts = served_parts (rows_of db) visit (DownloadFile n path) (answers.File bytes) next is in
      let free = unrefused stored visit (DownloadFile n path) (answers.File bytes) next.tables (λ why e. true≢false (ap is_refused e)) parts.0 in
      let f = file_told (is_good path.now) (file_at (pos n) path.now stored.files) bytes (content_told (content_stored n path.now stored) bytes free.1) in
      subst (IsUnderDigest db n path.now) f.2 (under_digest n path.now f.0 f.1 parts.1)

  pub bag_under : (n : ℕ) (bytes : List ℕ) (next : Rows) → serve_rows (rows_of db) visit (DownloadBag n) ≡ Some (answers.Bag bytes, next) → AreUnderDigests db n bytes
  bag_under n bytes next is =
      let parts = served_parts (rows_of db) visit (DownloadBag n) (answers.Bag bytes) next is in
      let free = unrefused stored visit (DownloadBag n) (answers.Bag bytes) next.tables (λ why e. true≢false (ap is_refused e)) parts.0 in
      let sorted = files_by_path (pos n) stored in
      let is_here : FileRow → Type 0 = λ f. file_at (pos n) f.path stored.files ≡ Some f in
      let is_sound : FileRow → Bool = λ f. is_intact_at n f.path (rows_of db) in
      record {
        files = stored_files n stored;
        form = form_told (is_none (list_fault (stored_files n stored))) (stored_files n stored) bytes free.1;
        each = all_mapped told.file_in (λ (file : File). IsUnderDigest db n file.path file.content) sorted (all_from (λ (f : FileRow). IsUnderDigest db n f.path f.content) sorted (λ f there.
            under_digest n f.path f (all_has is_here sorted f (each_found db office (pos n)) there) (all_has (λ f. is_sound f ≡ true) sorted f (all_passed is_sound sorted parts.1) there)));
      }
