-- Each value of a policy file gives the rule or the caller in its place.
use Rattle.office_core.proofs.Common.{◌≡◌, ◌∙◌, ℕ, zero, suc, Bool, false, List, [], ◌∷◌, Option, Some, None, is_none, option_map, option_and_then, slice_get, refl, sym, ap, or_parts, list_any, filter_map, AllByRecursion, Data, Members, as_table, first_some, answer_if, caller_in, caller_entries, callers_among, callers_of, is_bad_among, rule_of_value, rule_values, rules_among, rules_of, first_bad, bad_rule_among, bad_rule, has_days, has_bad_version, has_unknown_key, has_bad_caller, faults, rule_of, rule_table_at, GivesEach, SpellsRules, SpellsCallers, Rule, BadVersion, UnknownKey, BadCaller, BadRule, option_and_then_some}
use Rattle.office_core.proofs.OptionLemmas.{some_and_then, none_of, answer_if_none, option_map_none, by_Bool, by_Option}

-- what each value gives is there
abbrev AllGive : {A B : Type 0} → (A → Option B) → List A → Type 0
AllGive read values = AllByRecursion (λ value. is_none (read value) ≡ false) values

one_more : {A B : Type 0} (read : A → Option B) (value : A) (item : B) (values : List A) → read value ≡ Some item → GivesEach read values (filter_map read values)
    → GivesEach read (value ∷ values) (filter_map read (value ∷ values))
one_more read value item values is more = rw is (record { count = ap suc more.count; each = by_place })
  where
    by_place : (place : ℕ) → slice_get (item ∷ filter_map read values) place ≡ option_and_then read (slice_get (value ∷ values) place)
    by_place zero = sym is
    by_place (suc place) = more.each place

gives_each : {A B : Type 0} (read : A → Option B) (values : List A) → AllGive read values → GivesEach read values (filter_map read values)
gives_each read [] all = record { count = refl; each = λ place. refl }
gives_each read (value ∷ values) all = by_Option (read value) (λ none. absurd (let there = rw none at all.0 in cc)) (λ item is. one_more read value item values is (gives_each read values all.1))

none_is_bad : (with_days : Bool) (number : ℕ) (values : List Data) → first_bad with_days number values ≡ None → AllGive (rule_of_value with_days) values
none_is_bad with_days number [] e = tt
none_is_bad with_days number (value ∷ values) e =
    by_Bool (is_none (rule_of_value with_days value)) (λ bad. absurd (let found = rw bad at e in cc)) (λ good. (good, none_is_bad with_days (suc number) values (rw good at e)))

none_is_bad_caller : (entries : List (List ℕ × Data)) → list_any (λ entry. is_none (caller_in entry)) entries ≡ false → AllGive caller_in entries
none_is_bad_caller [] e = tt
none_is_bad_caller (entry ∷ entries) e =
    let both = or_parts (is_none (caller_in entry)) (list_any (λ other. is_none (caller_in other)) entries) e in
    (both.0, none_is_bad_caller entries both.1)

rules_are : (with_days : Bool) (found : Option (List Data)) → bad_rule_among with_days found ≡ None
    → (values : List Data) × (found ≡ Some values) × GivesEach (rule_of_value with_days) values (rules_among with_days found)
rules_are with_days None e = absurd cc
rules_are with_days (Some values) e = (values, refl, gives_each (rule_of_value with_days) values (none_is_bad with_days 1 values e))

callers_are : (found : Option (List (List ℕ × Data))) → is_bad_among found ≡ false → (entries : List (List ℕ × Data)) × (found ≡ Some entries) × GivesEach caller_in entries (callers_among found)
callers_are None e = absurd cc
callers_are (Some entries) e = (entries, refl, gives_each caller_in entries (none_is_bad_caller entries e))

pub tree_rules : (tree : Members) → first_some (faults tree) ≡ None → SpellsRules tree (rules_of tree)
tree_rules tree sound =
    let unknown = (none_of (answer_if (has_bad_version tree) BadVersion) _ sound).1 in
    let caller = (none_of (answer_if (has_unknown_key tree) UnknownKey) _ unknown).1 in
    let rule = (none_of (answer_if (has_bad_caller tree) BadCaller) _ caller).1 in
    rules_are (has_days tree) (rule_values tree) (option_map_none BadRule (bad_rule tree) (none_of (option_map BadRule (bad_rule tree)) _ rule).0)

pub tree_callers : (tree : Members) → first_some (faults tree) ≡ None → SpellsCallers tree (callers_of tree)
tree_callers tree sound =
    let unknown = (none_of (answer_if (has_bad_version tree) BadVersion) _ sound).1 in
    let caller = (none_of (answer_if (has_unknown_key tree) UnknownKey) _ unknown).1 in
    callers_are (caller_entries tree) (answer_if_none (has_bad_caller tree) BadCaller (none_of (answer_if (has_bad_caller tree) BadCaller) _ caller).0)

-- the rule in a place is the one that the table in that place spells
pub rule_in_place : (tree : Members) (rules : List Rule) → SpellsRules tree rules → (place : ℕ) (rule : Rule) → slice_get rules place ≡ Some rule
    → (ms : Members) × (rule_table_at tree place ≡ Some ms) × (rule_of (has_days tree) ms ≡ Some rule)
rule_in_place tree rules (values, are, gives) place rule at =
    option_and_then_some (rule_of_value (has_days tree)) (slice_get values place) rule (sym (gives.each place) ∙ at) (λ value there read.
    let (ms, table, spells) = some_and_then (as_table value) (rule_of (has_days tree)) rule read in
    (ms, ap (λ found. option_and_then as_table (option_and_then (λ vs. slice_get vs place) found)) are ∙ ap (option_and_then as_table) there ∙ table, spells))
