-- The rule row of the least place that matches, and the rule that decides.
use Rattle.office_refines.proofs.FirstLemmas.{◌≡◌, ℕ, ℤ, ◌+◌, codes, Bool, false, ◌||◌, ◌&&◌, List, [], ◌∷◌, Option, Some, None, is_some, option_map, slice_get, refl, ap, ◌∙◌, arith, pos, sym, true≢false, option_and_then, int_cmp, is_ge, is_le, ints, bytes_eq-Decides, AllByRecursion, epoch_day, action_of, action_text, PolicyValue, IsPolicy, IsNamed, HasNames, Action, Rule, fits_attempt, fits_name, matching_rule, RuleRow, effect_number, pattern_text, action_pattern_text, rule_row, rule_rows, not_star, or_empty, place_and_effect, rule_and_effect, bytes_eq, find, int_le, action_known, PassAlike, rows_from, false_from_ne_true}
use Rattle.office_core.specs.Rules as core
use Rattle.office_core.specs.Rules.{Question, matches_name, matches_action, matches_optional, matches, decision_at, decision_of}
use Rattle.office_core.specs.declared.rule.ActionPattern.{ActionPattern}
use Rattle.office_core.specs.declared.rule.Pattern.{Pattern}
use Rattle.office_core.specs.declared.rule.ActionPattern.TheVariants as action_patterns
use Rattle.office_core.specs.declared.rule.Pattern.TheVariants as patterns
use Rattle.office_refines.proofs.NumberedRows.{first_told}

-- ---- the row of a rule fits what the rule matches

name_fits : (pattern : Pattern) (name : List ℕ) → IsNamed pattern → fits_name (pattern_text pattern) name ≡ matches_name pattern name
name_fits patterns.Any name named = refl
name_fits (patterns.Named only) name named = ap (λ b. b || bytes_eq only name) (not_star only named)

-- an absent name is the empty text, which no name is
optional_fits : (pattern : Pattern) (name : Option (List ℕ)) → IsNamed pattern → fits_name (pattern_text pattern) (or_empty name) ≡ matches_optional pattern name
optional_fits patterns.Any name named = refl
optional_fits pattern (Some name) named = name_fits pattern name named
optional_fits (patterns.Named []) None named = absurd (true≢false (sym named))
optional_fits (patterns.Named (b ∷ bs)) None named = ap (λ star. star || false) (not_star (b ∷ bs) named)

action_not_star : (action : Action) → bytes_eq (action_text action) (codes "*") ≡ false
action_not_star action =
    false_from_ne_true (bytes_eq (action_text action) (codes "*")) (λ e. true≢false (sym (action_known action) ∙ ap (λ text. is_some (action_of text)) ((bytes_eq-Decides (action_text action) (codes "*")).0 e)))

action_fits : (pattern : ActionPattern) (action : Action) → fits_name (action_pattern_text pattern) (action_text action) ≡ matches_action pattern action
action_fits action_patterns.Any action = refl
action_fits (action_patterns.Only only) action = ap (λ b. b || bytes_eq (action_text only) (action_text action)) (action_not_star only)

no_later : (a b : ℤ) → is_le (int_cmp a b) ≡ int_le a b
no_later a b = grind (arith, ints)

no_earlier : (a b : ℤ) → is_ge (int_cmp a b) ≡ int_le b a
no_earlier a b = grind (arith, ints)

five : (a b c d e : Bool) → (a && (b && (c && (d && e)))) ≡ (a && b && c && d && e)
five a b c d e = grind arith

abbrev fits : Question → RuleRow → Bool
fits asked = fits_attempt (record {
  role = asked.role;
  action = action_text asked.action;
  collection = or_empty asked.collection;
  class = or_empty asked.class;
  day = epoch_day asked.day;
})

row_fits : (asked : Question) (rule : Rule) → HasNames rule → (place : ℕ) → fits asked (rule_row place rule) ≡ matches rule asked
row_fits asked rule named place =
    (λ i. name_fits rule.role asked.role named.0 i && (action_fits rule.action asked.action i && (optional_fits rule.collection asked.collection named.1 i && (optional_fits rule.class asked.class named.2 i
    && (no_later (epoch_day rule.first) (epoch_day asked.day) i && no_earlier (epoch_day rule.last) (epoch_day asked.day) i)))))
    ∙ five (matches_name rule.role asked.role) (matches_action rule.action asked.action) (matches_optional rule.collection asked.collection) (matches_optional rule.class asked.class) (core.counts_on rule asked.day)

-- ---- the first row that fits is that of the rule that decides

rows_are : (place : ℕ) (rules : List Rule) → rule_rows place rules ≡ rows_from rule_row place rules
rows_are place [] = refl
rows_are place (rule ∷ rules) = ap (λ rows. rule_row place rule ∷ rows) (rows_are (place + 1) rules)

all_fit : (asked : Question) (rules : List Rule) → AllByRecursion HasNames rules → PassAlike rule_row (fits asked) (λ rule. matches rule asked) rules
all_fit asked [] named = tt
all_fit asked (rule ∷ rules) named = (row_fits asked rule named.0, all_fit asked rules named.1)

pub rule_told : (policy : PolicyValue) (asked : Question) → IsPolicy policy
    → option_map place_and_effect (matching_rule asked.role (action_text asked.action) (or_empty asked.collection) (or_empty asked.class) (epoch_day asked.day) (rule_rows 1 policy.rules)) ≡ option_map rule_and_effect (decision_of policy.rules asked)
rule_told policy asked named =
    ap (λ rows. option_map place_and_effect (find (fits asked) rows)) (rows_are 1 policy.rules)
    ∙ first_told rule_row (fits asked) (λ rule. matches rule asked) (λ row place. option_map place_and_effect row ≡ option_map rule_and_effect (option_and_then (λ p. option_map (decision_at p) (slice_get policy.rules p)) place)) policy.rules (all_fit asked policy.rules named.rules_ask_for_names)
    refl (λ i rule there.
    let one : 1 + i ≡ i + 1 = omega arith in ap (λ k. Some (pos k, effect_number rule.effect)) one ∙ ap (λ o. option_map rule_and_effect (option_map (decision_at i) o)) (sym there))
