-- What the statement on the deciding rule answers.
use Rattle.office_tables.proofs.FirstLemmas.{and-true, ◌≡◌, ◌&&◌, ◌||◌, ℕ, ℤ, List, [], ◌∷◌, map, filter, take, slice_get, option_map, Bool, true, false, codes, Some, Less, refl, sym, ap, ap₂, ◌∙◌, bytes_eq, AllByRecursion, int_cmp, is_eq, is_ge, is_eq-slice_cmp, Value, Null, Int, Text, Row, column, value_cmp, Term, Binary, binary, is_true, from_truth, IsSureAnswer, output, output_cmp, Output, IsAscending, Schema, Database, State, Shown, reads_as, overlay, Compare, Or, Eq, Ge, Le, Key, Datatype, NotNull, value_cmp-Int, value_cmp-Text, all_has, all_from, first_taken, ascending_weaker, int_at, bytes_at, Scans, scan, passes, shown_of, scanned, answers_rising, shown_same, finds_one, typed_at, all_both, obeys_rule, office_schema, rule_5_table, rule_tree, IsOffice, tables_of, rule_in, shown_rule, of_rules, rule_columns, Attempt, counts_on, fits_attempt, fits_name, matching_rule}
use Rattle.office_tables.proofs.DueLemmas.{truth_back, by_day}
use Rattle.office_tables.proofs.MatchTexts.{AsksFirst, match_text, matching, match_order, asks_match}

-- ---- ORDER BY, LIMIT 1

module _ (schema : Schema) (text : List ℕ) (tree : ℕ) (test project : List Term) (order : List (Term × Key)) (asks : AsksFirst schema text tree test project order)
    (params : Row) (old new : State) (has : old.now.schema ≡ schema) (rows : List Row) (shown : Shown text params old new rows) where
  pub first_same : new.now ≡ old.now
  first_same = (shown_same text params old new schema has asks.plain rows shown).0.now_is

  -- the first of the rows that pass, in an order that ORDER BY allows
  pub scans_first : (all : List Row) × Scans old.now.trees params tree test project order all × (rows ≡ take 1 all)
  scans_first =
      let db = old.now.trees in
      let a = (reads_as text params old new schema has _ asks.command asks.plain asks.unlisted rows shown).answer Null in
      let all = map (λ (o : Output). o.1) a.ordered in
      let whole : IsSureAnswer (scan tree test project order) (overlay db []) params all = λ lost. record { staged = a.staged; grouped = a.grouped; kept = a.kept; distinct = a.distinct; ordered = a.ordered; same = a.same; sorted = a.sorted; shown = refl } in
      (all, scanned db params tree test project order all whole, a.shown)

  -- a key that rises over the table: what is shown of the first row that passes
  pub reads_first : (keep : Row → Bool) → AllByRecursion (λ r. passes params test r ≡ keep r) (old.now.trees tree)
      → IsAscending (λ a b. output_cmp (scan tree test project order) (output (scan tree test project order) (params ∷ a ∷ [])) (output (scan tree test project order) (params ∷ b ∷ [])) ≡ Less) (old.now.trees tree)
      → rows ≡ take 1 (map (shown_of params project) (filter keep (old.now.trees tree)))
  reads_first keep each up =
      let first = scans_first in
      first.2 ∙ ap (take 1) (answers_rising old.now.trees params tree test project order first.0 keep first.1 each up)

-- ---- `column IN ('*', parameter)`

or_back : (p q : Bool) → is_true (binary Or (from_truth (Some p)) (from_truth (Some q))) ≡ (p || q)
unfolding binary
or_back true true = refl
or_back true false = refl
or_back false true = refl
or_back false false = refl

text_is : (a b : List ℕ) → binary (Compare Eq Binary) (Text a) (Text b) ≡ from_truth (Some (bytes_eq a b))
unfolding binary
text_is a b = ap (λ o. from_truth (Some o)) (ap is_eq (value_cmp-Text a b) ∙ is_eq-slice_cmp a b)

abbrev either_text : Value → List ℕ → Value
either_text v b = binary Or (binary (Compare Eq Binary) v (Text (codes "*"))) (binary (Compare Eq Binary) v (Text b))

star_is : (v : Value) (a b : List ℕ) → v ≡ Text a → is_true (either_text v b) ≡ fits_name a b
star_is v a b is = ap (λ w. is_true (either_text w b)) is ∙ ap₂ (λ x y. is_true (binary Or x y)) (text_is a (codes "*")) (text_is a b) ∙ or_back (bytes_eq a (codes "*")) (bytes_eq a b)

-- ---- the rules

abbrev IsRuleRow : Row → Type 0
IsRuleRow r = (column r 3 ≡ Text (bytes_at r 3)) × (column r 4 ≡ Text (bytes_at r 4)) × (column r 5 ≡ Text (bytes_at r 5)) × (column r 6 ≡ Text (bytes_at r 6))
    × (column r 7 ≡ Int (int_at r 7)) × (column r 8 ≡ Int (int_at r 8))

pub rule_rows : (db : Database) → IsOffice db → AllByRecursion IsRuleRow (db.trees rule_tree)
rule_rows db office = all_both (λ r t p.
    let at = typed_at office_schema db.trees rule_5_table r t p in
    (at 2 refl, at 3 refl, at 4 refl, at 5 refl, at 6 refl, at 7 refl)) (db.trees rule_tree) (of_rules (obeys_rule office.whole Datatype)) (of_rules (obeys_rule office.whole NotNull))

until_is : (r : Row) (day : ℤ) → column r 8 ≡ Int (int_at r 8) → (is_true (binary (Compare Ge Binary) (column r 8) (Int day)) && true) ≡ is_ge (int_cmp (int_at r 8) day)
unfolding binary
until_is r day is = and-true (is_true (binary (Compare Ge Binary) (column r 8) (Int day))) ∙ ap (λ v. is_true (binary (Compare Ge Binary) v (Int day))) is ∙ truth_back (is_ge (value_cmp (Int (int_at r 8)) (Int day))) ∙ ap is_ge (value_cmp-Int (int_at r 8) day)

abbrev attempt : List ℕ → List ℕ → List ℕ → List ℕ → ℤ → Attempt
attempt role action collection class day = record { role = role; action = action; collection = collection; class = class; day = day }

false_last : (a b : Bool) → false ≡ (a && (b && false))
false_last true true = refl
false_last true false = refl
false_last false b = refl

-- two tests may be made before two others
reordered : (c d a b e : Bool) → (c && (d && (a && (b && e)))) ≡ (a && (b && (c && (d && e))))
reordered true true a b e = refl
reordered true false a b e = false_last a b
reordered false d a b e = false_last a b

passes_match : (role action collection class : List ℕ) (day : ℤ) (r : Row) → IsRuleRow r
    → passes (Text role ∷ Text action ∷ Text collection ∷ Text class ∷ Int day ∷ []) matching r ≡ fits_attempt (attempt role action collection class day) (rule_in r)
passes_match role action collection class day r it =
    ap₂ (λ a b. a && b) (star_is (column r 5) (bytes_at r 5) collection it.2) (ap₂ (λ a b. a && b) (star_is (column r 6) (bytes_at r 6) class it.3)
    (ap₂ (λ a b. a && b) (star_is (column r 3) (bytes_at r 3) role it.0) (ap₂ (λ a b. a && b) (star_is (column r 4) (bytes_at r 4) action it.1)
    (ap₂ (λ a b. a && b) (ap (λ v. is_true (binary (Compare Le Binary) v (Int day))) it.4 ∙ by_day (int_at r 7) day) (until_is r day it.5)))))
    ∙ reordered (fits_name (bytes_at r 5) collection) (fits_name (bytes_at r 6) class) (fits_name (bytes_at r 3) role) (fits_name (bytes_at r 4) action) (counts_on day (rule_in r))

pub finds_match : (old new : State) (role action collection class : List ℕ) (day : ℤ) (rows : List Row) → IsOffice old.now
    → Shown match_text (Text role ∷ Text action ∷ Text collection ∷ Text class ∷ Int day ∷ []) old new rows
    → (new.now ≡ old.now) × (matching_rule role action collection class day (tables_of old.now).rules ≡ option_map shown_rule (slice_get rows 0))
finds_match old new role action collection class day rows office h =
    let params : Row = Text role ∷ Text action ∷ Text collection ∷ Text class ∷ Int day ∷ [] in
    let stored = old.now.trees rule_tree in
    let keep : Row → Bool = λ r. fits_attempt (attempt role action collection class day) (rule_in r) in
    let up = ascending_weaker _ _ (λ a b lower. rw lower refl) stored (of_rules office.whole.shaped).0 in
    let each = all_from (λ r. passes params matching r ≡ keep r) stored (λ r there. passes_match role action collection class day r (all_has IsRuleRow stored r (rule_rows old.now office) there)) in
    let is = reads_first office_schema match_text rule_tree matching rule_columns match_order asks_match params old new office.whole.schema_is rows h keep each up in
    let all = map (shown_of params rule_columns) (filter keep stored) in
    let one = finds_one stored all keep (shown_of params rule_columns) rule_in shown_rule (fits_attempt (attempt role action collection class day)) (λ r. refl) (λ r. refl) refl in (
      first_same office_schema match_text rule_tree matching rule_columns match_order asks_match params old new office.whole.schema_is rows h,
      one ∙ ap (option_map shown_rule) (sym (first_taken all) ∙ ap (λ rs. slice_get rs 0) (sym is)),
    )
