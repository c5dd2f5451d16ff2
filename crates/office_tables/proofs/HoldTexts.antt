-- What the statements on holds mean under the schema of an office.
use Rattle.office_tables.proofs.FirstLemmas.{ℕ, List, [], ◌∷◌, ◌++◌, codes, refl, Null, Term, lit, col, op1, op2, Binary, Insert, Update, Values, understood, everything, Compare, Is, Or, Not, Eq, Lt, Gt, scan, as_program, Asks, AsksSome, by_number, rising, Means, office_schema, hold_tree, AsksLast, only}

abbrev pub hold_text : List ℕ
hold_text = codes "SELECT number, deposit, collection, class, matter, placed, released FROM hold_4 WHERE number = ?1"

abbrev pub hold_columns : List Term
hold_columns = col 1 0 ∷ col 1 2 ∷ col 1 3 ∷ col 1 4 ∷ col 1 5 ∷ col 1 6 ∷ col 1 7 ∷ []

abbrev pub last_text : List ℕ
last_text = codes "SELECT number FROM hold_4 ORDER BY number DESC LIMIT 1"

abbrev pub put_text : List ℕ
put_text = codes "INSERT INTO hold_4 (number, deposit, collection, class, matter, placed) VALUES (?1, ?2, ?3, ?4, ?5, ?6)"

abbrev pub hold_terms : List Term
hold_terms = col 0 0 ∷ lit Null ∷ col 0 1 ∷ col 0 2 ∷ col 0 3 ∷ col 0 4 ∷ col 0 5 ∷ lit Null ∷ []

abbrev pub end_text : List ℕ
end_text = codes "UPDATE hold_4 SET released = ?2 WHERE number = ?1"

abbrev pub ended_columns : List Term
ended_columns = col 1 0 ∷ col 1 0 ∷ lit Null ∷ col 1 2 ∷ col 1 3 ∷ col 1 4 ∷ col 1 5 ∷ col 1 6 ∷ col 0 1 ∷ []

-- ---- the live holds on a deposit, those on a collection, and those on a class

-- a hold that isn't released
abbrev live : Term
live = op2 (Is Binary) (col 1 7) (lit Null)

-- deposit IS NOT ?1
abbrev not_on : Term
not_on = op1 Not (op2 (Is Binary) (col 1 2) (col 0 0))

abbrev pub on_text : List ℕ
on_text = codes "SELECT number FROM hold_4 WHERE deposit = ?1 AND released IS NULL ORDER BY number"

abbrev pub on : List Term
on = op2 (Compare Eq Binary) (col 1 2) (col 0 0) ∷ live ∷ []

abbrev pub within_text : List ℕ
within_text = codes "SELECT number FROM hold_4 WHERE collection = ?2 AND deposit IS NOT ?1 AND released IS NULL ORDER BY number"

abbrev pub within : List Term
within = op2 (Compare Eq Binary) (col 1 3) (col 0 1) ∷ not_on ∷ live ∷ []

abbrev pub of_class_text : List ℕ
of_class_text = codes "SELECT number FROM hold_4 WHERE class = ?3 AND deposit IS NOT ?1 AND collection IS NOT ?2 AND released IS NULL ORDER BY number"

abbrev pub of_class : List Term
of_class = op2 (Compare Eq Binary) (col 1 4) (col 0 2) ∷ not_on ∷ op1 Not (op2 (Is Binary) (col 1 3) (col 0 1)) ∷ live ∷ []

-- ---- whether a hold was released outside of some days

-- its column is ?1, and released < ?2 OR released > ?3
abbrev pub outside_of : ℕ → List Term
outside_of place =
    op2 (Compare Eq Binary) (col 1 place) (col 0 0) ∷ op2 Or (op2 (Compare Lt Binary) (col 1 7) (col 0 1)) (op2 (Compare Gt Binary) (col 1 7) (col 0 2)) ∷ []

abbrev pub outside_text : List ℕ → List ℕ
outside_text column = codes "SELECT number FROM hold_4 WHERE " ++ column ++ codes " = ?1 AND (released < ?2 OR released > ?3) LIMIT 1"

-- ---- what each means

pub record HoldMeanings : Type 0 where
  pub asks_hold : Asks office_schema hold_text hold_tree by_number hold_columns []
  pub asks_last : AsksLast office_schema last_text hold_tree
  pub put_means : Means office_schema put_text (Insert 9 (Values hold_terms 8))
  pub end_means : Means office_schema end_text (Update 9 (as_program (scan hold_tree by_number ended_columns [])))
  pub asks_on : Asks office_schema on_text hold_tree on (only 0) rising
  pub asks_within : Asks office_schema within_text hold_tree within (only 0) rising
  pub asks_of_class : Asks office_schema of_class_text hold_tree of_class (only 0) rising
  pub asks_outside_on : AsksSome office_schema (outside_text (codes "deposit")) hold_tree (outside_of 2) (only 0)
  pub asks_outside_within : AsksSome office_schema (outside_text (codes "collection")) hold_tree (outside_of 3) (only 0)
  pub asks_outside_of_class : AsksSome office_schema (outside_text (codes "class")) hold_tree (outside_of 4) (only 0)

pub hold_meanings : HoldMeanings
unfolding understood everything
hold_meanings = record {
  asks_hold = record { names = codes "number" ∷ codes "deposit" ∷ codes "collection" ∷ codes "class" ∷ codes "matter" ∷ codes "placed" ∷ codes "released" ∷ []; command = refl; unlisted = refl; plain = (refl, refl) };
  asks_last = record { names = codes "number" ∷ []; command = refl; unlisted = refl; plain = (refl, refl) };
  put_means = record { is = refl; plain = (refl, refl) };
  end_means = record { is = refl; plain = (refl, refl) };
  asks_on = record { names = codes "number" ∷ []; command = refl; unlisted = refl; plain = (refl, refl) };
  asks_within = record { names = codes "number" ∷ []; command = refl; unlisted = refl; plain = (refl, refl) };
  asks_of_class = record { names = codes "number" ∷ []; command = refl; unlisted = refl; plain = (refl, refl) };
  asks_outside_on = record { names = codes "number" ∷ []; command = refl; unlisted = refl; plain = (refl, refl) };
  asks_outside_within = record { names = codes "number" ∷ []; command = refl; unlisted = refl; plain = (refl, refl) };
  asks_outside_of_class = record { names = codes "number" ∷ []; command = refl; unlisted = refl; plain = (refl, refl) };
}
