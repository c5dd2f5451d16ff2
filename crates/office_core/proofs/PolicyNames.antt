-- What each policy that a text spells has: names, each caller once, and not too many of them.
use Rattle.office_core.proofs.Common.{◌≡◌, ◌≢◌, ◌∙◌, ◌≤◌, ℕ, Bool, false, ◌&&◌, List, [], ◌∷◌, length, Option, Some, None, option_map, Ok, nat_lt, refl, sym, ap, subst, arith, codes, bytes_eq, and_parts, or_parts, false≢true, nat_tests, filter_map, AllByRecursion, Data, table, Members, no_members, member, same_key, get_member, as_str, max_rules, max_callers, first_some, answer_if, PolicyValue, policy_in_tree, entries, caller_in, table_entries, caller_entries, callers_among, is_bad_among, callers_of, text_at, pattern_in, pattern_at, rule_of, rules_among, bad_rule_among, bad_rule, rule_values, rules_of, has_days, has_bad_version, has_unknown_key, has_bad_caller, has_too_many, faults, IsNamed, HasNames, HasDays, IsNamedCaller, EachCallerOnce, IsPolicy, SpellsPolicy, read_callers, read_rules, Caller, BadVersion, UnknownKey, BadCaller, BadRule, TooMany, Rule, cond_some, same_Some}
use Rattle.office_core.specs.Names.{is_name}
use Rattle.office_core.proofs.OptionLemmas.{none_of, answer_if_none, by_Bool, by_Option, some_and_then}
use Rattle.office_core.proofs.RuleParts.{rule_parts, all_rules, rule_has_days}
use Rattle.office_core.proofs.TomlKeys.{IsNoKey, HasKeysOnce, AllSound, same_key-self, parsed_sound, member_sound}
use Rattle.office_core.specs.declared.rule.Pattern.{Pattern}
use Rattle.office_core.specs.declared.rule.Pattern.TheVariants as names

-- ---- patterns

pattern_named : (text : List ℕ) (pattern : Pattern) → pattern_in text ≡ Some pattern → IsNamed pattern
pattern_named text pattern e =
    by_Bool (bytes_eq text (codes "*"))
    (λ star. subst IsNamed (same_Some names.Any pattern (rw star at e)) tt)
    (λ other. let named = cond_some (is_name text) (names.Named text) pattern (rw other at e) in subst IsNamed named.1 named.0)

named_at : (key : List ℕ) (ms : Members) (pattern : Pattern) → pattern_at key ms ≡ Some pattern → IsNamed pattern
named_at key ms pattern e = let (text, _, read) = some_and_then (text_at key ms) pattern_in pattern e in pattern_named text pattern read

-- ---- rules

rule_named : (with_days : Bool) (ms : Members) (rule : Rule) → rule_of with_days ms ≡ Some rule → HasNames rule
rule_named with_days ms rule e =
    let parts = rule_parts with_days ms rule e in
    (named_at (codes "role") ms rule.role parts.role, named_at (codes "collection") ms rule.collection parts.collection, named_at (codes "class") ms rule.class parts.class)

among_named : (with_days : Bool) (found : Option (List Data)) → AllByRecursion HasNames (rules_among with_days found)
among_named with_days found = all_rules HasNames with_days (rule_named with_days) found

among_have_days : (with_days : Bool) (found : Option (List Data)) → AllByRecursion HasDays (rules_among with_days found)
among_have_days with_days found = all_rules HasDays with_days (rule_has_days with_days) found

-- ---- callers

-- what is at a caller is that caller, with names
caller_is : (entry : List ℕ × Data) (caller : Caller) → caller_in entry ≡ Some caller → (caller.name ≡ entry.0) × IsNamedCaller caller
caller_is entry caller e =
    let (role, _, read) = some_and_then (as_str entry.1) _ caller e in
    let made = cond_some (is_name entry.0 && is_name role) (record { name = entry.0; role = role }) caller read in
    subst (λ (c : Caller). (c.name ≡ entry.0) × IsNamedCaller c) made.1 (refl, and_parts (is_name entry.0) (is_name role) made.0)

one_more_caller : (P : Caller → Type 0) (entry : List ℕ × Data) (entries : List (List ℕ × Data)) → ((caller : Caller) → caller_in entry ≡ Some caller → P caller)
    → AllByRecursion P (filter_map caller_in entries) → AllByRecursion P (filter_map caller_in (entry ∷ entries))
one_more_caller P entry entries here more = by_Option (caller_in entry) (λ none. rw none more) (λ caller is. rw is (here caller is, more))

callers_named : (entries : List (List ℕ × Data)) → AllByRecursion IsNamedCaller (filter_map caller_in entries)
callers_named [] = tt
callers_named (entry ∷ entries) = one_more_caller IsNamedCaller entry entries (λ caller is. (caller_is entry caller is).1) (callers_named entries)

callers_among_named : (found : Option (List (List ℕ × Data))) → AllByRecursion IsNamedCaller (callers_among found)
callers_among_named None = tt
callers_among_named (Some entries) = callers_named entries

-- a key that isn't there is no caller's name
no_such_caller : (key : List ℕ) (ms : Members) → IsNoKey key ms → AllByRecursion (λ other. key ≢ other.name) (filter_map caller_in (entries ms))
no_such_caller key no_members none = tt
no_such_caller key (member l d ms) none =
    one_more_caller (λ other. key ≢ other.name) (l, d) (entries ms)
    (λ caller is e. false≢true (sym none.0 ∙ ap (same_key key) (sym (caller_is (l, d) caller is).0 ∙ sym e) ∙ same_key-self key))
    (no_such_caller key ms none.1)

entries_once : (ms : Members) → HasKeysOnce ms → EachCallerOnce (filter_map caller_in (entries ms))
entries_once no_members once = tt
entries_once (member key d ms) once =
    by_Option (caller_in (key, d)) (λ none. rw none (entries_once ms once.1))
    (λ caller is. rw is (subst (λ name. AllByRecursion (λ other. name ≢ other.name) (filter_map caller_in (entries ms))) (sym (caller_is (key, d) caller is).0) (no_such_caller key ms once.0), entries_once ms once.1))

-- each caller of a tree is there once
pub callers_once : (tree : Members) → AllSound tree → EachCallerOnce (callers_of tree)
callers_once tree sound = by_table (get_member (codes "callers") tree) refl
  where
    by_table : (found : Option Data) → get_member (codes "callers") tree ≡ found → EachCallerOnce (callers_among (table_entries found))
    by_table (Some (table ms)) is = entries_once ms (member_sound (codes "callers") tree (table ms) sound is)
    by_table _ is = tt

-- ---- policies

pub no_policy_is_policy : IsPolicy (record { callers = []; rules = [] })
no_policy_is_policy = record {
  rules_ask_for_names = tt;
  rules_have_days = tt;
  callers_are_names = tt;
  callers_stand_once = tt;
  few_rules = omega arith;
  few_callers = omega arith;
}

-- a tree without a fault has not too many
not_too_many : (tree : Members) → first_some (faults tree) ≡ None → has_too_many tree ≡ false
not_too_many tree sound =
    let unknown = (none_of (answer_if (has_bad_version tree) BadVersion) _ sound).1 in
    let caller = (none_of (answer_if (has_unknown_key tree) UnknownKey) _ unknown).1 in
    let rule = (none_of (answer_if (has_bad_caller tree) BadCaller) _ caller).1 in
    let many = (none_of (option_map BadRule (bad_rule tree)) _ rule).1 in
    answer_if_none (has_too_many tree) TooMany (none_of (answer_if (has_too_many tree) TooMany) [] many).0

tree_policy : (tree : Members) → AllSound tree → first_some (faults tree) ≡ None → IsPolicy (policy_in_tree tree)
tree_policy tree once sound =
    let few = or_parts (nat_lt max_rules (length (rules_of tree))) (nat_lt max_callers (length (callers_of tree))) (not_too_many tree sound) in
    record {
      rules_ask_for_names = among_named (has_days tree) (rule_values tree);
      rules_have_days = among_have_days (has_days tree) (rule_values tree);
      callers_are_names = callers_among_named (caller_entries tree);
      callers_stand_once = callers_once tree once;
      few_rules = grind (arith, nat_tests, few.0);
      few_callers = grind (arith, nat_tests, few.1);
    }

pub spelled_policy : (text : List ℕ) (policy : PolicyValue) → SpellsPolicy text policy → IsPolicy policy
spelled_policy text policy spells =
    subst IsPolicy (sym spells.is) (tree_policy spells.tree (parsed_sound text spells.tree spells.parsed) spells.sound)

-- callers and rules that were read are those of the tree
pub callers_read : (found : Option (List (List ℕ × Data))) (callers : List Caller) → read_callers found ≡ Ok callers → callers_among found ≡ callers
callers_read found callers e = by_Bool (is_bad_among found) (λ bad. absurd (let read = rw bad at e in cc)) (λ good. let read = rw good at e in cc)

pub rules_read : (with_days : Bool) (found : Option (List Data)) (rules : List Rule) → read_rules with_days found ≡ Ok rules → rules_among with_days found ≡ rules
rules_read with_days found rules e = by_Option (bad_rule_among with_days found) (λ good. let read = rw good at e in cc) (λ number bad. absurd (let read = rw bad at e in cc))

-- what is read of a tree is a policy, where it isn't too much
pub read_policy_is : (tree : Members) (callers : List Caller) (rules : List Rule) → EachCallerOnce (callers_of tree) → read_callers (caller_entries tree) ≡ Ok callers → read_rules (has_days tree) (rule_values tree) ≡ Ok rules
    → length rules ≤ max_rules → length callers ≤ max_callers → IsPolicy (record { callers = callers; rules = rules })
read_policy_is tree callers rules once callers_are rules_are few_rules few_callers =
    let same_callers = callers_read (caller_entries tree) callers callers_are in
    let same_rules = rules_read (has_days tree) (rule_values tree) rules rules_are in
    record {
      rules_ask_for_names = subst (AllByRecursion HasNames) same_rules (among_named (has_days tree) (rule_values tree));
      rules_have_days = subst (AllByRecursion HasDays) same_rules (among_have_days (has_days tree) (rule_values tree));
      callers_are_names = subst (AllByRecursion IsNamedCaller) same_callers (callers_among_named (caller_entries tree));
      callers_stand_once = subst EachCallerOnce same_callers once;
      few_rules = few_rules;
      few_callers = few_callers;
    }
