-- The contents that are stored once, and what the calls on them say. `old` is the database before a call and `new` the one after it.
use Rattle.std.specs.Prelude.{◌≡◌, ◌≢◌, ℕ, ℤ, pos, List, [], ◌∷◌, ◌++◌, map, filter, length, true, false, bytes_eq, Bool, not, ◌||◌, if◌then◌else◌, Option, Some, None, find, option_map, slice_get, unwrap_or, ◌⊎◌, Result, IfOk, IsErr, IsErrAnd, IsSome, OnOk}
use Rattle.std.specs.List.{AllByRecursion, IsDistinct, list_any}
use Rattle.sha2.specs.Sha256.{sha256}
use Rattle.sqlite.specs.Store.{Ghosts}
use Rattle.sqlite.specs.State.{HasCleanDisk}
use Rattle.sqlite.specs.Held.{Held, state}
use Rattle.std.specs.Ordering.{int_eq}
use Rattle.sqlite.specs.Order.{Row}
use Rattle.sqlite.specs.Effect.{Database}
use Rattle.sqlite_rules.specs.Lists.{Has}
use Rattle.sql_meaning.specs.Columns.{bytes_at, int_at}
use Rattle.office_rows.specs.Rows.{ContentRow, FileRow, is_content, content_numbered, bytes_under, next_id, with_content, is_alike, is_file_at, is_file_of, file_at, with_file, without_files}
use Rattle.office_contents.specs.Calls.{IsOfStore}
use Rattle.office_contents.specs.declared.fault.TableFault.{TableFault}
use Rattle.office_contents.specs.Schema.{content_tree, file_tree}
use Rattle.office_contents.specs.Tables.{IsOffice, Becomes, tables_of, contents_of}

-- the number of the content of each file
abbrev pub references_of : Database → List ℤ
references_of db = map (λ row. int_at row 3) (db.trees file_tree)

-- ---- stored once

-- no two contents have the same bytes
abbrev pub StandOnce : List ContentRow → Type 0
StandOnce contents = IsDistinct bytes_eq (map (λ c. c.bytes) contents)

-- the mark is the SHA-256 of the bytes, and the size their number
pub record IsMarked (c : ContentRow) : Type 0 where
  pub mark : c.mark ≡ sha256 c.bytes
  pub size : c.size ≡ pos (length c.bytes)

-- each content is some file's
abbrev pub AreUsed : List ℤ → List ContentRow → Type 0
AreUsed references = AllByRecursion (λ c. list_any (λ id. int_eq id c.id) references ≡ true)

pub record AreStoredOnce (references : List ℤ) (contents : List ContentRow) : Type 0 where
  pub once : StandOnce contents
  pub marked : AllByRecursion IsMarked contents
  pub used : AreUsed references contents

-- each content of the database once, under its own SHA-256 and with its size, and none that is no file's
abbrev pub StoresOnce : Database → Type 0
StoresOnce db = AreStoredOnce (references_of db) (contents_of db)

-- ---- what a call makes of them

-- the contents are as they were, and so is which of them each file has
pub record HasSameContents (old new : Database) : Type 0 where
  pub contents : contents_of new ≡ contents_of old
  pub references : references_of new ≡ references_of old

-- a call that isn't about contents leaves them so
abbrev pub LeavesContents : {S T E : Type 0} → Ghosts S → Held S → Held S → Result T E → Type 0
LeavesContents g old new result = HasCleanDisk (state g new) → IsOffice (state g old).now → OnOk result (HasSameContents (state g old).now (state g new).now)

-- contents that were stored once still are
abbrev pub LeavesOnce : {S T E : Type 0} → Ghosts S → Held S → Held S → Result T E → Type 0
LeavesOnce g old new result = HasCleanDisk (state g new) → IsOffice (state g old).now → StoresOnce (state g old).now → OnOk result (StoresOnce (state g new).now)

-- this is so of the database before and after, and of what is answered
abbrev pub Does : {S T E : Type 0} → Ghosts S → Held S → Held S → Result T E → (Database → Database → T → Type 0) → Type 0
Does g old new result is_so = HasCleanDisk (state g new) → IsOffice (state g old).now → IfOk result (is_so (state g old).now (state g new).now)

-- where this is so of the database before, the call fails with `Store`, or with `Memory` since it ran out in the store
abbrev pub RefusesIf : {S T : Type 0} → Ghosts S → Held S → Held S → Result T TableFault → (Database → Type 0) → Type 0
RefusesIf g old new result is_so = HasCleanDisk (state g new) → IsOffice (state g old).now → is_so (state g old).now → IsErrAnd result (IsOfStore g new)

-- where this is so of the database before, the call fails
abbrev pub FailsIf : {S T E : Type 0} → Ghosts S → Held S → Held S → Result T E → (Database → Type 0) → Type 0
FailsIf g old new result is_so = HasCleanDisk (state g new) → IsOffice (state g old).now → is_so (state g old).now → IsErr result

-- no row of the office changes, nor which content a file has
pub record HasSameFiles (old new : Database) : Type 0 where
  pub becomes : Becomes new (tables_of old)
  pub references : references_of new ≡ references_of old

-- the content of that mark and these bytes that comes after these
abbrev pub content_after : List ContentRow → List ℕ → List ℕ → ContentRow
content_after contents mark bytes = record { id = next_id contents; mark = mark; size = pos (length bytes); bytes = bytes }

-- a content came at the end, under the next number
pub record IsContentAdded (mark bytes : List ℕ) (old new : Database) : Type 0 where
  pub keeps : HasSameFiles old new
  pub contents : contents_of new ≡ contents_of old ++ content_after (contents_of old) mark bytes ∷ []

-- the number of the first content with this mark and these bytes
abbrev pub number_alike : List ℕ → List ℕ → List ContentRow → Option ℤ
number_alike mark bytes contents = option_map (λ c. c.id) (find (is_alike mark bytes) contents)

-- the number of the content that a file with this mark and these bytes gets: that of the first that has them, and the next where none has
abbrev pub content_number : List ℕ → List ℕ → List ContentRow → ℤ
content_number mark bytes contents = unwrap_or (number_alike mark bytes contents) (next_id contents)

-- one that has them was there already under this number, and nothing changed
pub record IsReused (mark bytes : List ℕ) (id : ℤ) (old new : Database) : Type 0 where
  pub found : number_alike mark bytes (contents_of old) ≡ Some id
  pub same : new ≡ old

-- it came at the end under this number
pub record IsNewContent (mark bytes : List ℕ) (id : ℤ) (old new : Database) : Type 0 where
  pub keeps : HasSameFiles old new
  pub numbered : id ≡ next_id (contents_of old)
  pub contents : contents_of new ≡ contents_of old ++ content_after (contents_of old) mark bytes ∷ []

-- the first content with this mark and these bytes has this number now, and one was added only where none was
abbrev pub IsContentStored : List ℕ → List ℕ → Database → Database → ℤ → Type 0
IsContentStored mark bytes old new id = IsReused mark bytes id old new ⊎ ((number_alike mark bytes (contents_of old) ≡ None) × IsNewContent mark bytes id old new)

-- a file came at the end, whose content is the one under this number
pub record IsFileAdded (n : ℤ) (path : List ℕ) (id : ℤ) (old new : Database) : Type 0 where
  pub becomes : Becomes new (with_file (record { deposit = n; path = path; content = bytes_under (contents_of old) id }) (tables_of old))
  pub contents : contents_of new ≡ contents_of old
  pub references : references_of new ≡ references_of old ++ id ∷ []
  pub new_path : file_at n path (tables_of old).files ≡ None

-- ---- what goes with the files of a deposit

-- the references of the files that pass; references are in the order of the files
abbrev pub references_where : (FileRow → Bool) → List FileRow → List ℤ → List ℤ
references_where those [] references = []
references_where those (f ∷ files) [] = []
references_where those (f ∷ files) (id ∷ references) = if those f then id ∷ references_where those files references else references_where those files references

-- those of the deposit's files
abbrev pub references_within : ℤ → List FileRow → List ℤ → List ℤ
references_within n = references_where (is_file_of n)

-- those of all other files
abbrev pub references_without : ℤ → List FileRow → List ℤ → List ℤ
references_without n = references_where (λ f. not (is_file_of n f))

-- one of the references is to the content
abbrev pub is_among : List ℤ → ContentRow → Bool
is_among references c = list_any (λ id. int_eq id c.id) references

-- the contents without those that files of the deposit have and no other file
abbrev pub contents_without : ℤ → List FileRow → List ℤ → List ContentRow → List ContentRow
contents_without n files references = filter (λ c. is_among (references_without n files references) c || not (is_among (references_within n files references) c))

-- the contents without those of these numbers to which no reference is
abbrev pub without_unused : List ℤ → List ℤ → List ContentRow → List ContentRow
without_unused [] references contents = contents
without_unused (id ∷ ids) references contents = without_unused ids references (filter (λ c. is_among references c || not (is_content id c)) contents)

-- the files of the deposit are gone, and a reference that was there is one of those that still are or was one of theirs
pub record AreFilesDropped (n : ℤ) (old new : Database) : Type 0 where
  pub becomes : Becomes new (without_files n (tables_of old))
  pub contents : contents_of new ≡ contents_of old
  pub left : references_of new ≡ references_without n (tables_of old).files (references_of old)
  pub references : (id : ℤ) → Has (references_of old) id → Has (references_of new) id ⊎ ((row : Row) × Has (old.trees file_tree) row × (int_eq (int_at row 1) n ≡ true) × (int_at row 3 ≡ id))

-- this file came at the end; its content is the first that was there under that mark, or came at the end too
pub record IsMarkedPut (f : FileRow) (mark : List ℕ) (old new : Database) : Type 0 where
  pub becomes : Becomes new (with_file f (tables_of old))
  pub new_path : file_at f.deposit f.path (tables_of old).files ≡ None
  pub contents : contents_of new ≡ with_content mark f.content (contents_of old)
  pub references : references_of new ≡ references_of old ++ content_number mark f.content (contents_of old) ∷ []
  pub used : AreUsed (references_of old) (contents_of old) → AreUsed (references_of new) (contents_of new)

-- ---- which content a file has

-- the content to which this is the reference
abbrev pub content_referred : Option ℤ → List ContentRow → Option ContentRow
content_referred None contents = None
content_referred (Some id) contents = content_numbered id contents

-- the content that the file of the deposit at that path has
abbrev pub content_at : ℤ → List ℕ → List FileRow → List ℤ → List ContentRow → Option ContentRow
content_at n path files references = content_referred (slice_get (references_where (is_file_at n path) files references) 0)

-- it is there, and its mark is the SHA-256 of its bytes
abbrev pub is_intact : Option ContentRow → Bool
is_intact None = false
is_intact (Some c) = bytes_eq c.mark (sha256 c.bytes)

-- the deposit has a file at that path, and the content of this file isn't intact
pub record IsAltered (n : ℤ) (path : List ℕ) (db : Database) : Type 0 where
  pub there : IsSome (file_at n path (tables_of db).files)
  pub altered : is_intact (content_at n path (tables_of db).files (references_of db) (contents_of db)) ≡ false

-- so is that of some file of the deposit
abbrev pub HasAltered : ℤ → Database → Type 0
HasAltered n db = (path : List ℕ) × IsAltered n path db

-- a row shows the path of a file of the deposit, and the number of the content that this file has
pub record ShowsFile (n : ℤ) (db : Database) (row : Row) : Type 0 where
  pub file : file_at n (bytes_at row 0) (tables_of db).files ≡ Some (record { deposit = n; path = bytes_at row 0; content = bytes_under (contents_of db) (int_at row 1) })
  pub content : content_at n (bytes_at row 0) (tables_of db).files (references_of db) (contents_of db) ≡ content_numbered (int_at row 1) (contents_of db)

-- ---- bytes that rot

-- what is left of a content without its bytes: its number, its mark and its size
abbrev pub without_bytes : ContentRow → ContentRow
without_bytes c = record c { bytes = [] }

-- the contents are the same but for their bytes, and so is every other row
pub record DiffersInBytes (old new : Database) : Type 0 where
  pub contents : map without_bytes (contents_of new) ≡ map without_bytes (contents_of old)
  pub others : (tree : ℕ) → tree ≢ content_tree → new.trees tree ≡ old.trees tree

-- ---- contents that nobody keeps

-- each content is some file's, or one of these
abbrev pub AreUsedOr : List ℤ → List ℤ → List ContentRow → Type 0
AreUsedOr ids references = AllByRecursion (λ c. Has references c.id ⊎ Has ids c.id)

-- no file changed; contents went, and of these numbers only those are left that are these or some file's
pub record IsTidied (ids rest : List ℤ) (old new : Database) : Type 0 where
  pub keeps : HasSameFiles old new
  pub once : StandOnce (contents_of old) → StandOnce (contents_of new)
  pub marked : AllByRecursion IsMarked (contents_of old) → AllByRecursion IsMarked (contents_of new)
  pub used : AreUsedOr ids (references_of old) (contents_of old) → AreUsedOr rest (references_of new) (contents_of new)
  pub contents : without_unused rest (references_of new) (contents_of new) ≡ without_unused ids (references_of old) (contents_of old)

-- ---- what stored once comes to

-- the contents that are held are exactly these texts, each once, marked by its SHA-256 and with its length as its size
pub record AreContents (texts : List (List ℕ)) (contents : List ContentRow) : Type 0 where
  pub once : StandOnce contents
  pub marked : AllByRecursion IsMarked contents
  pub held : (x : List ℕ) → Has texts x → Has (map (λ c. c.bytes) contents) x
  pub used : (x : List ℕ) → Has (map (λ c. c.bytes) contents) x → Has texts x
  pub sizes : map (λ c. c.size) contents ≡ map (λ b. pos (length b)) (map (λ c. c.bytes) contents)
