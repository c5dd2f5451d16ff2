-- The days of the rules that a text spells.
use Rattle.office_core.proofs.Common.{◌≡◌, ◌∙◌, ℕ, pos, false, List, Some, IsSomeAnd, sym, ap, subst, slice_get, AllByRecursion, int_eq, HasNoDays, PolicyValue, SpellsPolicy, SpellsRules, WritesDays, has_days, may_have_days, rule_table_at, rule_values, rules_among, version_number_in, Rule}
use Rattle.std.specs.Option.{option_map_or}
use Rattle.office_core.proofs.PolicyPlaces.{tree_rules, rule_in_place}
use Rattle.office_core.proofs.RuleParts.{all_rules, rule_has_no_days, rule_writes_days}

-- the rules of a tree that has none with days
no_days : (text : List ℕ) (policy : PolicyValue) (spells : SpellsPolicy text policy) → has_days spells.tree ≡ false → AllByRecursion HasNoDays policy.rules
no_days text policy spells none =
    let read : policy.rules ≡ rules_among false (rule_values spells.tree) = ap (λ p. p.rules) spells.is ∙ ap (λ days. rules_among days (rule_values spells.tree)) none in
    subst (AllByRecursion HasNoDays) (sym read) (all_rules HasNoDays false rule_has_no_days (rule_values spells.tree))

pub first_version_has_no_days : (text : List ℕ) (policy : PolicyValue) (spells : SpellsPolicy text policy) → version_number_in spells.tree ≡ Some (pos 1) → AllByRecursion HasNoDays policy.rules
first_version_has_no_days text policy spells first = no_days text policy spells (ap (λ found. option_map_or (int_eq (pos 2)) found false) first)

pub no_days_told : (text : List ℕ) (policy : PolicyValue) → SpellsPolicy text policy → may_have_days text ≡ false → AllByRecursion HasNoDays policy.rules
no_days_told text policy spells told = no_days text policy spells (sym (ap (λ found. option_map_or has_days found false) spells.parsed) ∙ told)

pub days_are_written : (text : List ℕ) (policy : PolicyValue) (spells : SpellsPolicy text policy) (place : ℕ) (rule : Rule) → slice_get policy.rules place ≡ Some rule
    → IsSomeAnd (rule_table_at spells.tree place) (λ table. WritesDays table rule)
days_are_written text policy spells place rule at =
    let ordered : SpellsRules spells.tree policy.rules = subst (SpellsRules spells.tree) (sym (ap (λ p. p.rules) spells.is)) (tree_rules spells.tree spells.sound) in
    let (ms, table, spelled) = rule_in_place spells.tree policy.rules ordered place rule at in
    rw table (rule_writes_days (has_days spells.tree) ms rule spelled)
