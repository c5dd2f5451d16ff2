-- What the statements on callers and rules mean under the schema of an office.
use Rattle.office_tables.proofs.Common.{ℕ, List, [], ◌∷◌, codes, refl, Null, Term, lit, col, Insert, Delete, Values, understood, everything, scan, as_program, Asks, rising, by_text, Means, office_schema, caller_tree, rule_tree}
use Rattle.office_contents.proofs.Columns.{only, all_given}

abbrev pub role_text : List ℕ
role_text = codes "SELECT role FROM caller WHERE name = ?1"

abbrev pub rules_text : List ℕ
rules_text = codes "SELECT place, effect, role, action, collection, class, first, last FROM rule_5 ORDER BY place"

abbrev pub rule_columns : List Term
rule_columns = col 1 0 ∷ col 1 2 ∷ col 1 3 ∷ col 1 4 ∷ col 1 5 ∷ col 1 6 ∷ col 1 7 ∷ col 1 8 ∷ []

abbrev pub drop_callers_text : List ℕ
drop_callers_text = codes "DELETE FROM caller"

abbrev pub drop_rules_text : List ℕ
drop_rules_text = codes "DELETE FROM rule_5"

abbrev pub add_caller_text : List ℕ
add_caller_text = codes "INSERT INTO caller (name, role) VALUES (?1, ?2)"

abbrev pub add_rule_text : List ℕ
add_rule_text = codes "INSERT INTO rule_5 (place, effect, role, action, collection, class, first, last) VALUES (?1, ?2, ?3, ?4, ?5, ?6, ?7, ?8)"

abbrev pub rule_terms : List Term
rule_terms = col 0 0 ∷ lit Null ∷ col 0 1 ∷ col 0 2 ∷ col 0 3 ∷ col 0 4 ∷ col 0 5 ∷ col 0 6 ∷ col 0 7 ∷ []

-- ---- what each means

pub record PolicyMeanings : Type 0 where
  pub asks_role : Asks office_schema role_text caller_tree (by_text 1) (only 2) []
  pub asks_rules : Asks office_schema rules_text rule_tree [] rule_columns rising
  pub drop_callers_means : Means office_schema drop_callers_text (Delete 1 (as_program (scan caller_tree [] (col 1 0 ∷ []) [])))
  pub drop_rules_means : Means office_schema drop_rules_text (Delete 10 (as_program (scan rule_tree [] (col 1 0 ∷ []) [])))
  pub add_caller_means : Means office_schema add_caller_text (Insert 1 (Values (all_given 2) 3))
  pub add_rule_means : Means office_schema add_rule_text (Insert 10 (Values rule_terms 9))

pub policy_meanings : PolicyMeanings
unfolding understood everything
policy_meanings = record {
  asks_role = record { names = codes "role" ∷ []; command = refl; unlisted = refl; plain = (refl, refl) };
  asks_rules = record { names = codes "place" ∷ codes "effect" ∷ codes "role" ∷ codes "action" ∷ codes "collection" ∷ codes "class" ∷ codes "first" ∷ codes "last" ∷ []; command = refl; unlisted = refl; plain = (refl, refl) };
  drop_callers_means = record { is = refl; plain = (refl, refl) };
  drop_rules_means = record { is = refl; plain = (refl, refl) };
  add_caller_means = record { is = refl; plain = (refl, refl) };
  add_rule_means = record { is = refl; plain = (refl, refl) };
}
