-- What the statements on contents, and on which files refer to one, mean under the schema of an office.
use Rattle.office_contents.proofs.FirstLemmas.{ℕ, List, [], ◌∷◌, codes, refl, Null, Binary, Term, lit, col, op2, Insert, Delete, Values, understood, everything, Compare, Eq, scan, as_program, by_number, rising, Asks, AsksSome, Means, AsksLast, office_schema, file_tree, content_tree, only}

-- ---- reads

abbrev pub content_text : List ℕ
content_text = codes "SELECT mark, bytes FROM content WHERE id = ?1"

abbrev pub content_columns : List Term
content_columns = col 1 2 ∷ col 1 4 ∷ []

-- WHERE mark = ?1 AND bytes = ?2
abbrev pub by_likeness : List Term
by_likeness = op2 (Compare Eq Binary) (col 1 2) (col 0 0) ∷ op2 (Compare Eq Binary) (col 1 4) (col 0 1) ∷ []

abbrev pub alike_text : List ℕ
alike_text = codes "SELECT id FROM content WHERE mark = ?1 AND bytes = ?2 ORDER BY id"

abbrev pub last_text : List ℕ
last_text = codes "SELECT id FROM content ORDER BY id DESC LIMIT 1"

abbrev pub contents_text : List ℕ
contents_text = codes "SELECT id, size FROM content ORDER BY id"

abbrev pub size_columns : List Term
size_columns = col 1 0 ∷ col 1 3 ∷ []

-- WHERE content = ?1
abbrev pub by_content : List Term
by_content = op2 (Compare Eq Binary) (col 1 3) (col 0 0) ∷ []

abbrev pub users_text : List ℕ
users_text = codes "SELECT deposit FROM file WHERE content = ?1 LIMIT 1"

-- ---- writes

abbrev pub add_text : List ℕ
add_text = codes "INSERT INTO content (mark, size, bytes) VALUES (?1, ?2, ?3)"

abbrev pub add_terms : List Term
add_terms = lit Null ∷ lit Null ∷ col 0 0 ∷ col 0 1 ∷ col 0 2 ∷ []

abbrev pub remove_text : List ℕ
remove_text = codes "DELETE FROM content WHERE id = ?1"

-- ---- what each means

pub record ContentMeanings : Type 0 where
  pub asks_content : Asks office_schema content_text content_tree by_number content_columns []
  pub asks_alike : Asks office_schema alike_text content_tree by_likeness (only 0) rising
  pub asks_last : AsksLast office_schema last_text content_tree
  pub asks_contents : Asks office_schema contents_text content_tree [] size_columns rising
  pub asks_users : AsksSome office_schema users_text file_tree by_content (only 1)
  pub add_means : Means office_schema add_text (Insert 8 (Values add_terms 5))
  pub remove_means : Means office_schema remove_text (Delete 8 (as_program (scan content_tree by_number (only 0) [])))

pub content_meanings : ContentMeanings
unfolding understood everything
content_meanings = record {
  asks_content = record { names = codes "mark" ∷ codes "bytes" ∷ []; command = refl; unlisted = refl; plain = (refl, refl) };
  asks_alike = record { names = codes "id" ∷ []; command = refl; unlisted = refl; plain = (refl, refl) };
  asks_last = record { names = codes "id" ∷ []; command = refl; unlisted = refl; plain = (refl, refl) };
  asks_contents = record { names = codes "id" ∷ codes "size" ∷ []; command = refl; unlisted = refl; plain = (refl, refl) };
  asks_users = record { names = codes "deposit" ∷ []; command = refl; unlisted = refl; plain = (refl, refl) };
  add_means = record { is = refl; plain = (refl, refl) };
  remove_means = record { is = refl; plain = (refl, refl) };
}
