-- The contents beside the tables, and which of them each file has: what a request makes of them, and which of them it serves.
use Rattle.std.specs.Prelude.{◌≡◌, ℕ, ℤ, pos, Bool, true, List, [], ◌∷◌, ◌++◌, Result, Ok, Err}
use Rattle.std.specs.List.{list_all}
use Rattle.sha2.specs.Sha256.{sha256}
use Rattle.sqlite.specs.Effect.{Database}
use Rattle.bag_text.specs.TransferForm.{File}
use Rattle.office_core.specs.declared.answer.Answer.{Answer}
use Rattle.office_core.specs.declared.answer.Answer.TheVariants.{Bag, Deposited, Destroyed, File as FileAnswer}
use Rattle.office_core.specs.declared.request.Request.{Request}
use Rattle.office_core.specs.declared.request.Request.TheVariants.{Deposit, DownloadBag, DownloadFile}
use Rattle.office_rows.specs.Rows.{ContentRow, FileRow, Tables, with_content}
use Rattle.office_contents.specs.Contents.{content_at, content_number, contents_without, is_intact, references_of, references_without}
use Rattle.office_contents.specs.Tables.{IsOffice, contents_of, tables_of}
use Rattle.office_history.specs.Bags.{bag_of}
use Rattle.office_by_rows.specs.Answers.{files_by_path}

-- each content that is stored, and the number of the content of each file, in the order of the files
pub record Contents : Type 0 where
  pub rows : List ContentRow
  pub references : List ℤ

abbrev pub contents_in : Database → Contents
contents_in db = record { rows = contents_of db; references = references_of db }

-- the rows of the tables, and beside them the contents
pub record Rows : Type 0 where
  pub tables : Tables
  pub contents : Contents

abbrev pub rows_of : Database → Rows
rows_of db = record { tables = tables_of db; contents = contents_in db }

-- the database is an office's, and these are its rows
pub record IsOfficeWith (r : Rows) (db : Database) : Type 0 where
  pub office : IsOffice db
  pub are : rows_of db ≡ r

-- ---- what a request makes of them

-- a file comes at the end: its content is the first that has its bytes under their SHA-256, or comes at the end too
abbrev pub with_content_of : File → Contents → Contents
with_content_of f k = record {
  rows = with_content (sha256 f.content) f.content k.rows;
  references = k.references ++ content_number (sha256 f.content) f.content k.rows ∷ [];
}

-- the files come in turn
abbrev pub with_contents_of : List File → Contents → Contents
with_contents_of [] k = k
with_contents_of (f ∷ fs) k = with_contents_of fs (with_content_of f k)

-- the files of the deposit go, and with them each content that no other file has
abbrev pub without_contents_of : ℤ → List FileRow → Contents → Contents
without_contents_of n files k = record {
  rows = contents_without n files k.references k.rows;
  references = references_without n files k.references;
}

-- the files of the bag that a request brings
abbrev pub files_if_bag : Result (List File) (List ℕ) → List File
files_if_bag (Ok files) = files
files_if_bag (Err fault) = []

abbrev pub files_brought : Request → List File
files_brought (Deposit description bag) = files_if_bag (bag_of bag.now)
files_brought request = []

-- the contents after a request that was answered so, by the rows before it: a deposit that is kept and one that is destroyed change them
abbrev pub contents_after : Tables → Request → Answer → Contents → Contents
contents_after t request (Deposited n) k = with_contents_of (files_brought request) k
contents_after t request (Destroyed n day) k = without_contents_of (pos n) t.files k
contents_after t request given k = k

-- ---- which of them a request serves

-- what the file of the deposit at that path has is intact
abbrev pub is_intact_at : ℕ → List ℕ → Rows → Bool
is_intact_at n path r = is_intact (content_at (pos n) path r.tables.files r.contents.references r.contents.rows)

-- so is what each file of the deposit has
abbrev pub are_intact_of : ℕ → Rows → Bool
are_intact_of n r = list_all (λ (f : FileRow). is_intact_at n f.path r) (files_by_path (pos n) r.tables)

abbrev pub downloads_intact_file : Rows → Request → Bool
downloads_intact_file r (DownloadFile n path) = is_intact_at n path.now r
downloads_intact_file r request = true

abbrev pub downloads_intact_bag : Rows → Request → Bool
downloads_intact_bag r (DownloadBag n) = are_intact_of n r
downloads_intact_bag r request = true

-- the contents are intact that are served by this answer to the request
abbrev pub downloads_intact : Rows → Request → Answer → Bool
downloads_intact r request (FileAnswer bytes) = downloads_intact_file r request
downloads_intact r request (Bag bytes) = downloads_intact_bag r request
downloads_intact r request given = true
