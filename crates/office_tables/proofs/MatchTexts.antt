-- What the statements on the deciding rule mean under the schema of an office.
use Rattle.office_tables.proofs.FirstLemmas.{◌≡◌, ℕ, pos, List, [], ◌∷◌, codes, false, refl, Int, Text, Term, lit, col, op2, Query, Schema, Binary, Select, understood, reads_listing, IsPlain, command_of, everything, Key, Compare, Or, Eq, Ge, Le, scan, as_program, rising, office_schema, rule_tree, rule_columns}

-- SELECT project FROM table WHERE test ORDER BY order LIMIT 1
abbrev pub first_scan : ℕ → List Term → List Term → List (Term × Key) → Query
first_scan tree test project order = record (scan tree test project order) { limit = lit (Int (pos 1)) }

pub record AsksFirst (schema : Schema) (text : List ℕ) (tree : ℕ) (test project : List Term) (order : List (Term × Key)) : Type 0 where
  pub names : List (List ℕ)
  pub command : command_of (understood schema text) ≡ Select (as_program (first_scan tree test project order)) names
  pub unlisted : reads_listing schema text ≡ false
  pub plain : IsPlain (understood schema text)

-- the column has `*`, or the parameter
abbrev pub star_or : ℕ → ℕ → Term
star_or place param = op2 Or (op2 (Compare Eq Binary) (col 1 place) (lit (Text (codes "*")))) (op2 (Compare Eq Binary) (col 1 place) (col 0 param))

-- the number in the column is at most the parameter; and at least it
abbrev pub day_from : ℕ → ℕ → Term
day_from place param = op2 (Compare Le Binary) (col 1 place) (col 0 param)

abbrev pub day_until : ℕ → ℕ → Term
day_until place param = op2 (Compare Ge Binary) (col 1 place) (col 0 param)

abbrev pub match_text : List ℕ
match_text = codes "SELECT place, effect, role, action, collection, class, first, last FROM rule_5 WHERE collection IN ('*', ?3) AND class IN ('*', ?4) AND role IN ('*', ?1) AND action IN ('*', ?2) AND first <= ?5 AND last >= ?5 ORDER BY place LIMIT 1"

abbrev pub matching : List Term
matching = star_or 5 2 ∷ star_or 6 3 ∷ star_or 3 0 ∷ star_or 4 1 ∷ day_from 7 4 ∷ day_until 8 4 ∷ []

abbrev pub match_order : List (Term × Key)
match_order = rising

pub asks_match : AsksFirst office_schema match_text rule_tree matching rule_columns match_order
unfolding understood everything
asks_match = record {
  names = codes "place" ∷ codes "effect" ∷ codes "role" ∷ codes "action" ∷ codes "collection" ∷ codes "class" ∷ codes "first" ∷ codes "last" ∷ [];
  command = refl;
  unlisted = refl;
  plain = (refl, refl);
}
