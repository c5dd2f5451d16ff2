-- What the statements on classes and collections mean under the schema of an office.
use Rattle.office_tables.proofs.Common.{ℕ, List, [], ◌∷◌, codes, refl, Term, col, Insert, Update, Values, understood, everything, scan, as_program, Asks, by_text, Means, office_schema, class_tree, collection_tree}
use Rattle.office_contents.proofs.Columns.{only, all_given}

abbrev pub years_text : List ℕ
years_text = codes "SELECT years FROM class WHERE name = ?1"

abbrev pub revise_text : List ℕ
revise_text = codes "UPDATE class SET years = ?2 WHERE name = ?1"

abbrev pub revised_columns : List Term
revised_columns = col 1 0 ∷ col 1 0 ∷ col 1 1 ∷ col 0 1 ∷ []

abbrev pub add_class_text : List ℕ
add_class_text = codes "INSERT INTO class (name, years) VALUES (?1, ?2)"

abbrev pub find_text : List ℕ
find_text = codes "SELECT name FROM collection WHERE name = ?1"

abbrev pub add_collection_text : List ℕ
add_collection_text = codes "INSERT INTO collection (name) VALUES (?1)"

-- ---- what each means

pub record ClassMeanings : Type 0 where
  pub asks_years : Asks office_schema years_text class_tree (by_text 1) (only 2) []
  pub revise_means : Means office_schema revise_text (Update 3 (as_program (scan class_tree (by_text 1) revised_columns [])))
  pub add_class_means : Means office_schema add_class_text (Insert 3 (Values (all_given 2) 3))
  pub asks_collection : Asks office_schema find_text collection_tree (by_text 1) (only 1) []
  pub add_collection_means : Means office_schema add_collection_text (Insert 4 (Values (all_given 1) 2))

pub class_meanings : ClassMeanings
unfolding understood everything
class_meanings = record {
  asks_years = record { names = codes "years" ∷ []; command = refl; unlisted = refl; plain = (refl, refl) };
  revise_means = record { is = refl; plain = (refl, refl) };
  add_class_means = record { is = refl; plain = (refl, refl) };
  asks_collection = record { names = codes "name" ∷ []; command = refl; unlisted = refl; plain = (refl, refl) };
  add_collection_means = record { is = refl; plain = (refl, refl) };
}
