-- What the statements on deposits mean under the schema of an office.
use Rattle.office_tables.proofs.Common.{ℕ, List, [], ◌∷◌, ◌++◌, ◌+◌, length, take, drop, codes, refl, Null, Term, lit, col, Insert, Update, Values, understood, everything, scan, as_program, Asks, by_number, rising, by_text, Means, office_schema, deposit_place, deposit_tree}
use Rattle.office_contents.proofs.LastRow.{AsksLast}

-- ---- reads

abbrev pub deposit_text : List ℕ
deposit_text = codes "SELECT number, accession, collection, class, closed, deposited, files, bytes, gone FROM deposit WHERE number = ?1"

abbrev pub accession_text : List ℕ
accession_text = codes "SELECT number, accession, collection, class, closed, deposited, files, bytes, gone FROM deposit WHERE accession = ?1"

abbrev pub deposits_text : List ℕ
deposits_text = codes "SELECT number, accession, collection, class, closed, deposited, files, bytes, gone FROM deposit ORDER BY number"

abbrev pub deposit_columns : List Term
deposit_columns = col 1 0 ∷ col 1 2 ∷ col 1 3 ∷ col 1 4 ∷ col 1 5 ∷ col 1 6 ∷ col 1 7 ∷ col 1 8 ∷ col 1 9 ∷ []

abbrev deposit_names : List (List ℕ)
deposit_names = codes "number" ∷ codes "accession" ∷ codes "collection" ∷ codes "class" ∷ codes "closed" ∷ codes "deposited" ∷ codes "files" ∷ codes "bytes" ∷ codes "gone" ∷ []

-- ---- writes

abbrev pub put_text : List ℕ
put_text = codes "INSERT INTO deposit (number, accession, collection, class, closed, deposited, files, bytes, due, holds) VALUES (?1, ?2, ?3, ?4, ?5, ?6, ?7, ?8, ?9, ?10)"

abbrev pub put_terms : List Term
put_terms = col 0 0 ∷ lit Null ∷ col 0 1 ∷ col 0 2 ∷ col 0 3 ∷ col 0 4 ∷ col 0 5 ∷ col 0 6 ∷ col 0 7 ∷ lit Null ∷ col 0 8 ∷ col 0 9 ∷ []

abbrev pub put_width : ℕ
put_width = length put_terms

-- each column as it was, but for that one
abbrev pub deposit_with : ℕ → Term → List Term
deposit_with place term =
    let all = col 1 0 ∷ lit Null ∷ col 1 2 ∷ col 1 3 ∷ col 1 4 ∷ col 1 5 ∷ col 1 6 ∷ col 1 7 ∷ col 1 8 ∷ col 1 9 ∷ col 1 10 ∷ col 1 11 ∷ [] in
    col 1 0 ∷ (take place all ++ term ∷ drop (place + 1) all)

abbrev pub gone_text : List ℕ
gone_text = codes "UPDATE deposit SET gone = ?2 WHERE number = ?1"

-- ---- the last number

abbrev pub last_text : List ℕ
last_text = codes "SELECT number FROM deposit ORDER BY number DESC LIMIT 1"

-- ---- what each means

pub record DepositMeanings : Type 0 where
  pub asks_deposit : Asks office_schema deposit_text deposit_tree by_number deposit_columns []
  pub asks_accession : Asks office_schema accession_text deposit_tree (by_text 2) deposit_columns []
  pub asks_deposits : Asks office_schema deposits_text deposit_tree [] deposit_columns rising
  pub put_means : Means office_schema put_text (Insert deposit_place (Values put_terms put_width))
  pub gone_means : Means office_schema gone_text (Update deposit_place (as_program (scan deposit_tree by_number (deposit_with 9 (col 0 1)) [])))
  pub asks_last : AsksLast office_schema last_text deposit_tree

pub deposit_meanings : DepositMeanings
unfolding understood everything
deposit_meanings = record {
  asks_deposit = record { names = deposit_names; command = refl; unlisted = refl; plain = (refl, refl) };
  asks_accession = record { names = deposit_names; command = refl; unlisted = refl; plain = (refl, refl) };
  asks_deposits = record { names = deposit_names; command = refl; unlisted = refl; plain = (refl, refl) };
  put_means = record { is = refl; plain = (refl, refl) };
  gone_means = record { is = refl; plain = (refl, refl) };
  asks_last = record { names = codes "number" ∷ []; command = refl; unlisted = refl; plain = (refl, refl) };
}
