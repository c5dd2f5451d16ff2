-- A legal office serves all that it keeps: no content of it is taken for an altered one.
use Rattle.office_engine.proofs.Common.{◌≡◌, ℕ, ℤ, pos, Bool, true, List, [], ◌∷◌, Option, Some, refl, ap, ◌∙◌, true≢false, AllByRecursion, list_all, and_from, is_good, Database, all_from, all_has, ◌>>=◌, answer_if, Answer, Request, DownloadBag, DownloadFile, FileRow, Tables, file_at, content_at, is_intact, references_of, IsOffice, contents_of, tables_of, each_found, content_stored, files_by_path, Visit, serve, Rows, are_intact_of, is_intact_at, rows_of, downloads_intact, downloads_intact_bag, downloads_intact_file, rows_after, serve_rows}
use Rattle.office_core.specs.declared.answer.Answer.TheVariants as answers
use Rattle.office_engine.proofs.OtherBytes.{content_told, file_told, is_refused, unrefused}

all_passing : {X : Type 0} (p : X → Bool) (xs : List X) → AllByRecursion (λ x. p x ≡ true) xs → list_all p xs ≡ true
all_passing p [] all = refl
all_passing p (x ∷ xs) all = and_from _ _ all.0 (all_passing p xs all.1)

module _ (db : Database) (office : IsOffice db) (sound : (n : ℤ) (path : List ℕ) (f : FileRow) → file_at n path (tables_of db).files ≡ Some f → is_intact (content_at n path (tables_of db).files (references_of db) (contents_of db)) ≡ true) (visit : Visit) where
  abbrev t : Tables
  t = tables_of db

  bag_intact : (n : ℕ) → are_intact_of n (rows_of db) ≡ true
  bag_intact n =
      let is_here : FileRow → Type 0 = λ f. file_at (pos n) f.path t.files ≡ Some f in
      let here = each_found db office (pos n) in
      let sorted = files_by_path (pos n) t in
      all_passing (λ (f : FileRow). is_intact_at n f.path (rows_of db)) sorted (all_from _ sorted (λ f there. sound (pos n) f.path f (all_has is_here sorted f here there)))

  file_served : (request : Request) (bytes : List ℕ) (next : Tables) → serve t visit request ≡ Some (answers.File bytes, next) → downloads_intact_file (rows_of db) request ≡ true
  file_served (DownloadFile n path) bytes next is =
      let free = unrefused t visit (DownloadFile n path) (answers.File bytes) next (λ why e. true≢false (ap is_refused e)) is in
      let f = file_told (is_good path.now) (file_at (pos n) path.now t.files) bytes (content_told (content_stored n path.now t) bytes free.1) in
      sound (pos n) path.now f.0 f.1
  file_served _ bytes next is = refl

  bag_served : (request : Request) → downloads_intact_bag (rows_of db) request ≡ true
  bag_served (DownloadBag n) = bag_intact n
  bag_served _ = refl

  downloaded_intact : (request : Request) (given : Answer) (next : Tables) → serve t visit request ≡ Some (given, next) → downloads_intact (rows_of db) request given ≡ true
  downloaded_intact request (answers.File bytes) next is = file_served request bytes next is
  downloaded_intact request (answers.Bag bytes) next is = bag_served request
  downloaded_intact request _ next is = refl

  pub told_whole : (request : Request) (given : Answer) (next : Tables) → serve t visit request ≡ Some (given, next) → serve_rows (rows_of db) visit request ≡ Some (given, rows_after (rows_of db) request given next)
  told_whole request given next is =
      let r = rows_of db in
      ap (λ (o : Option (Answer × Tables)). o >>= λ served. answer_if {A = Answer × Rows} (downloads_intact r request served.0) (served.0, rows_after r request served.0 served.1)) is
      ∙ ap (λ b. answer_if {A = Answer × Rows} b (given, rows_after r request given next)) (downloaded_intact request given next is)
