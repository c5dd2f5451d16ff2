-- What the statements on files mean under the schema of an office.
use Rattle.office_contents.proofs.FirstLemmas.{ℕ, List, [], ◌∷◌, codes, false, refl, Binary, Term, col, op2, Insert, Delete, Values, understood, everything, Compare, Eq, Key, scan, as_program, Asks, Means, office_schema, file_tree, only, all_given}

-- ---- reads

-- WHERE deposit = ?1
abbrev pub by_deposit : List Term
by_deposit = op2 (Compare Eq Binary) (col 1 1) (col 0 0) ∷ []

-- WHERE deposit = ?1 AND path = ?2
abbrev pub by_place : List Term
by_place = op2 (Compare Eq Binary) (col 1 1) (col 0 0) ∷ op2 (Compare Eq Binary) (col 1 2) (col 0 1) ∷ []

abbrev pub by_path : List (Term × Key)
by_path = (col 1 2, record { collation = Binary; descending = false }) ∷ []

abbrev pub content_text : List ℕ
content_text = codes "SELECT content FROM file WHERE deposit = ?1 AND path = ?2"

abbrev pub ids_text : List ℕ
ids_text = codes "SELECT content FROM file WHERE deposit = ?1"

abbrev pub files_text : List ℕ
files_text = codes "SELECT path, content FROM file WHERE deposit = ?1 ORDER BY path"

abbrev pub files_columns : List Term
files_columns = col 1 2 ∷ col 1 3 ∷ []

-- ---- writes

abbrev pub put_text : List ℕ
put_text = codes "INSERT INTO file (deposit, path, content) VALUES (?1, ?2, ?3)"

abbrev pub drop_text : List ℕ
drop_text = codes "DELETE FROM file WHERE deposit = ?1"

-- ---- what each means

pub record FileMeanings : Type 0 where
  pub asks_content : Asks office_schema content_text file_tree by_place (only 3) []
  pub asks_ids : Asks office_schema ids_text file_tree by_deposit (only 3) []
  pub asks_files : Asks office_schema files_text file_tree by_deposit files_columns by_path
  pub put_means : Means office_schema put_text (Insert 6 (Values (all_given 3) 4))
  pub drop_means : Means office_schema drop_text (Delete 6 (as_program (scan file_tree by_deposit (only 0) [])))

pub file_meanings : FileMeanings
unfolding understood everything
file_meanings = record {
  asks_content = record { names = codes "content" ∷ []; command = refl; unlisted = refl; plain = (refl, refl) };
  asks_ids = record { names = codes "content" ∷ []; command = refl; unlisted = refl; plain = (refl, refl) };
  asks_files = record { names = codes "path" ∷ codes "content" ∷ []; command = refl; unlisted = refl; plain = (refl, refl) };
  put_means = record { is = refl; plain = (refl, refl) };
  drop_means = record { is = refl; plain = (refl, refl) };
}
