-- What is told of a database that differs in the bytes of contents alone, as where bytes rot on a disk.
use Rattle.std.specs.Prelude.{◌≡◌, ℕ, pos, List, map, Some}
use Rattle.std.specs.List.{AllByRecursion}
use Rattle.sha2.specs.Sha256.{sha256}
use Rattle.sqlite.specs.Effect.{Database}
use Rattle.bag_text.specs.TransferForm.{File, content_at, set_text}
use Rattle.jiff.specs.Types.{Date}
use Rattle.office_rows.specs.Rows.{ContentRow}
use Rattle.office_contents.specs.Contents as contents
use Rattle.office_contents.specs.Contents.{references_of}
use Rattle.office_contents.specs.Tables.{contents_of, tables_of}
use Rattle.office_history.specs.Histories.{Deposit, History, deposit_numbered}

-- a path, and the SHA-256 of the content there
abbrev pub digested : File → List ℕ × List ℕ
digested file = (file.path, sha256 file.content)

-- the bag deposited under the number has a content at that path, and these bytes have its SHA-256
pub record HasDigestAt (h : History) (n : ℕ) (path bytes : List ℕ) : Type 0 where
  pub found : Date × Deposit
  pub there : deposit_numbered h n ≡ Some found
  pub kept : List ℕ
  pub is_kept : content_at found.1.bag path ≡ Some kept
  pub same : sha256 bytes ≡ sha256 kept

-- these bytes are the form of files with the paths of the bag deposited under the number, and with the SHA-256 of its contents
pub record HasDigestsOf (h : History) (n : ℕ) (bytes : List ℕ) : Type 0 where
  pub found : Date × Deposit
  pub there : deposit_numbered h n ≡ Some found
  pub files : List File
  pub form : bytes ≡ set_text files
  pub same : map digested files ≡ map digested found.1.bag

-- the file of the deposit at that path has a content row with these bytes, whose mark is their SHA-256
pub record IsUnderDigest (db : Database) (n : ℕ) (path bytes : List ℕ) : Type 0 where
  pub row : ContentRow
  pub there : contents.content_at (pos n) path (tables_of db).files (references_of db) (contents_of db) ≡ Some row
  pub bytes_are : row.bytes ≡ bytes
  pub mark : row.mark ≡ sha256 bytes

-- these bytes are the form of files that each have such a row
pub record AreUnderDigests (db : Database) (n : ℕ) (bytes : List ℕ) : Type 0 where
  pub files : List File
  pub form : bytes ≡ set_text files
  pub each : AllByRecursion (λ (file : File). IsUnderDigest db n file.path file.content) files
