-- What the statements on due days, counts of holds and deciding rules mean under the schema of an office.
use Rattle.office_tables.proofs.FirstLemmas.{ℕ, pos, List, [], ◌∷◌, codes, refl, Null, Int, Text, Term, lit, col, op1, op2, case, Binary, Update, understood, everything, Compare, Is, Arith, Eq, Ge, Le, Add, TypeOf, scan, as_program, Asks, by_number, rising, by_text, Means, office_schema, deposit_place, deposit_tree, deposit_with}

-- ---- the deposits of a class

abbrev pub class_rows_text : List ℕ
class_rows_text = codes "SELECT number, closed FROM deposit WHERE class = ?1 ORDER BY number"

abbrev pub class_rows_columns : List Term
class_rows_columns = col 1 0 ∷ col 1 5 ∷ []

-- ---- the due row of one deposit

abbrev pub due_of_text : List ℕ
due_of_text = codes "SELECT number, due, holds FROM deposit WHERE number = ?1"

abbrev pub due_of_columns : List Term
due_of_columns = col 1 0 ∷ col 1 10 ∷ col 1 11 ∷ []

abbrev pub set_due_text : List ℕ
set_due_text = codes "UPDATE deposit SET due = ?2 WHERE number = ?1"

abbrev pub clear_due_text : List ℕ
clear_due_text = codes "UPDATE deposit SET due = NULL WHERE number = ?1"

abbrev pub set_holds_text : List ℕ
set_holds_text = codes "UPDATE deposit SET holds = ?2 WHERE number = ?1"

-- ---- the deposits between two numbers

abbrev pub set_dues_text : List ℕ
set_dues_text = codes "UPDATE deposit SET due = ?3 WHERE number BETWEEN ?1 AND ?2"

abbrev pub clear_dues_text : List ℕ
clear_dues_text = codes "UPDATE deposit SET due = NULL WHERE number BETWEEN ?1 AND ?2"

-- WHERE number BETWEEN ?1 AND ?2
abbrev pub by_numbers : List Term
by_numbers = op2 (Compare Ge Binary) (col 1 0) (col 0 0) ∷ op2 (Compare Le Binary) (col 1 0) (col 0 1) ∷ []

-- ---- every deposit with its due row

abbrev pub beside_text : List ℕ
beside_text = codes "SELECT number, accession, collection, class, closed, deposited, files, bytes, gone, due, holds FROM deposit ORDER BY number"

abbrev pub beside_columns : List Term
beside_columns = col 1 0 ∷ col 1 2 ∷ col 1 3 ∷ col 1 4 ∷ col 1 5 ∷ col 1 6 ∷ col 1 7 ∷ col 1 8 ∷ col 1 9 ∷ col 1 10 ∷ col 1 11 ∷ []

-- ---- more holds over a collection, or over a class

-- the sum, and NULL where 64 bits don't hold it: there the sum is a float
abbrev pub more_holds_term : Term
more_holds_term =
    let sum = op2 (Arith Add) (col 1 11) (col 0 1) in
    case (op2 (Compare Eq Binary) (op1 TypeOf sum) (lit (Text (codes "integer")))) sum (lit Null)

abbrev pub more_columns : List Term
more_columns = deposit_with 11 more_holds_term

abbrev pub add_holds_text : List ℕ
add_holds_text = codes "UPDATE deposit SET holds = CASE WHEN typeof(holds + ?2) = 'integer' THEN holds + ?2 END WHERE collection = ?1"

abbrev pub add_holds_class_text : List ℕ
add_holds_class_text = codes "UPDATE deposit SET holds = CASE WHEN typeof(holds + ?2) = 'integer' THEN holds + ?2 END WHERE class = ?1"

-- ---- what may be destroyed

abbrev pub due_rows_text : List ℕ
due_rows_text = codes "SELECT number, collection, class, due FROM deposit WHERE gone IS NULL AND holds = 0 AND due >= ?2 AND due <= ?1 ORDER BY number"

abbrev pub is_due : List Term
is_due = op2 (Is Binary) (col 1 9) (lit Null) ∷ op2 (Compare Eq Binary) (col 1 11) (lit (Int (pos 0))) ∷ op2 (Compare Ge Binary) (col 1 10) (col 0 1) ∷ op2 (Compare Le Binary) (col 1 10) (col 0 0) ∷ []

abbrev pub due_rows_columns : List Term
due_rows_columns = col 1 0 ∷ col 1 3 ∷ col 1 4 ∷ col 1 10 ∷ []

-- ---- what each means

pub record DueMeanings : Type 0 where
  pub asks_class_rows : Asks office_schema class_rows_text deposit_tree (by_text 4) class_rows_columns rising
  pub asks_due_of : Asks office_schema due_of_text deposit_tree by_number due_of_columns []
  pub set_due_means : Means office_schema set_due_text (Update deposit_place (as_program (scan deposit_tree by_number (deposit_with 10 (col 0 1)) [])))
  pub clear_due_means : Means office_schema clear_due_text (Update deposit_place (as_program (scan deposit_tree by_number (deposit_with 10 (lit Null)) [])))
  pub set_dues_means : Means office_schema set_dues_text (Update deposit_place (as_program (scan deposit_tree by_numbers (deposit_with 10 (col 0 2)) [])))
  pub clear_dues_means : Means office_schema clear_dues_text (Update deposit_place (as_program (scan deposit_tree by_numbers (deposit_with 10 (lit Null)) [])))
  pub set_holds_means : Means office_schema set_holds_text (Update deposit_place (as_program (scan deposit_tree by_number (deposit_with 11 (col 0 1)) [])))
  pub asks_beside : Asks office_schema beside_text deposit_tree [] beside_columns rising
  pub add_holds_means : Means office_schema add_holds_text (Update deposit_place (as_program (scan deposit_tree (by_text 3) more_columns [])))
  pub add_holds_class_means : Means office_schema add_holds_class_text (Update deposit_place (as_program (scan deposit_tree (by_text 4) more_columns [])))
  pub asks_due_rows : Asks office_schema due_rows_text deposit_tree is_due due_rows_columns rising

pub due_meanings : DueMeanings
unfolding understood everything
due_meanings = record {
  asks_class_rows = record { names = codes "number" ∷ codes "closed" ∷ []; command = refl; unlisted = refl; plain = (refl, refl) };
  asks_due_of = record { names = codes "number" ∷ codes "due" ∷ codes "holds" ∷ []; command = refl; unlisted = refl; plain = (refl, refl) };
  set_due_means = record { is = refl; plain = (refl, refl) };
  clear_due_means = record { is = refl; plain = (refl, refl) };
  set_dues_means = record { is = refl; plain = (refl, refl) };
  clear_dues_means = record { is = refl; plain = (refl, refl) };
  set_holds_means = record { is = refl; plain = (refl, refl) };
  asks_beside = record { names = codes "number" ∷ codes "accession" ∷ codes "collection" ∷ codes "class" ∷ codes "closed" ∷ codes "deposited" ∷ codes "files" ∷ codes "bytes" ∷ codes "gone" ∷ codes "due" ∷ codes "holds" ∷ []; command = refl; unlisted = refl; plain = (refl, refl) };
  add_holds_means = record { is = refl; plain = (refl, refl) };
  add_holds_class_means = record { is = refl; plain = (refl, refl) };
  asks_due_rows = record { names = codes "number" ∷ codes "collection" ∷ codes "class" ∷ codes "due" ∷ []; command = refl; unlisted = refl; plain = (refl, refl) };
}
