-- What a table that spells a rule says of each part of the rule.
use Rattle.office_core.proofs.Common.{◌≡◌, ◌∙◌, ◌≤ℤ◌, ℕ, Bool, true, false, List, [], ◌∷◌, Option, Some, None, int_le, inl, inr, refl, sym, ap, subst, option_and_then, rules, nat_cmp, is_eq, codes, slice_cmp, list_all, filter_map, AllByRecursion, and_parts, false≢true, same_Some, bytes_eq-Decides, Date, epoch_day, Data, Members, no_members, member, get_member, as_str, as_table, first_day, last_day, IsDay, day_of, HasNoDays, entries, is_one_of, rule_keys, keys_of_rule, effect_at, action_at, pattern_at, day_in, day_at, first_at, last_at, days_from, days_at, rule_of, rule_of_value, rules_among, IsBound, WritesDays, HasDays, Rule}
use Rattle.std.proofs.lemmas.Map.Text.{is_eq-slice_cmp}
use Rattle.office_core.proofs.OptionLemmas.{some_if, some_and_then, by_Option, by_Ordering}
use Rattle.office_core.proofs.DayTexts.{written_day}

-- the parts of a rule are those that its table spells
pub record SpellsParts (with_days : Bool) (ms : Members) (rule : Rule) : Type 0 where
  pub keys : list_all (λ entry. is_one_of (keys_of_rule with_days) entry.0) (entries ms) ≡ true
  pub effect : effect_at ms ≡ Some rule.effect
  pub role : pattern_at (codes "role") ms ≡ Some rule.role
  pub action : action_at ms ≡ Some rule.action
  pub collection : pattern_at (codes "collection") ms ≡ Some rule.collection
  pub class : pattern_at (codes "class") ms ≡ Some rule.class
  pub days : days_at ms ≡ Some (rule.first, rule.last)

pub rule_parts : (with_days : Bool) (ms : Members) (rule : Rule) → rule_of with_days ms ≡ Some rule → SpellsParts with_days ms rule
unfolding rule_of
rule_parts with_days ms rule e =
    let (keys, read) = some_if (list_all (λ entry. is_one_of (keys_of_rule with_days) entry.0) (entries ms)) _ rule e in
    let (effect, is_effect, more) = some_and_then (effect_at ms) _ rule read in
    let (role, is_role, more2) = some_and_then (pattern_at (codes "role") ms) _ rule more in
    let (action, is_action, more3) = some_and_then (action_at ms) _ rule more2 in
    let (collection, is_collection, more4) = some_and_then (pattern_at (codes "collection") ms) _ rule more3 in
    let (class, is_class, more5) = some_and_then (pattern_at (codes "class") ms) _ rule more4 in
    let (days, are_days, made) = some_and_then (days_at ms) _ rule more5 in
    let spelled : Rule = record { effect = effect; role = role; action = action; collection = collection; class = class; first = days.0; last = days.1 } in
    let same : spelled ≡ rule = same_Some _ _ made in
    subst (SpellsParts with_days ms) same (record {
      keys = keys;
      effect = is_effect;
      role = is_role;
      action = is_action;
      collection = is_collection;
      class = is_class;
      days = are_days;
    })

-- what holds of each rule that a table spells holds of all rules of an array
pub all_rules : (P : Rule → Type 0) (with_days : Bool) → ((ms : Members) (rule : Rule) → rule_of with_days ms ≡ Some rule → P rule)
    → (found : Option (List Data)) → AllByRecursion P (rules_among with_days found)
all_rules P with_days each None = tt
all_rules P with_days each (Some values) = all values
  where
    all : (values : List Data) → AllByRecursion P (filter_map (rule_of_value with_days) values)
    all [] = tt
    all (value ∷ values) =
        by_Option (rule_of_value with_days value) (λ none. rw none (all values))
        (λ rule is. let (ms, table, read) = some_and_then (as_table value) (rule_of with_days) rule is in rw is (each ms rule read, all values))

-- ---- days

-- the first day and the last are there, and the first isn't after the last
bounds_at : (ms : Members) (first last : Date) → days_at ms ≡ Some (first, last)
    → (first_at ms ≡ Some first) × (last_at ms ≡ Some last) × (epoch_day first ≤ℤ epoch_day last)
bounds_at ms first last e =
    let (from, is_from, rest) = some_and_then (first_at ms) _ (first, last) e in
    let (until, is_until, ends) = some_and_then (last_at ms) (λ until. days_from from until) (first, last) rest in
    let (ordered, same) = some_if (int_le (epoch_day from) (epoch_day until)) (Some (from, until)) (first, last) ends in
    let same_days = same_Some _ _ same in
    let same_from : from ≡ first = ap (λ d. d.0) same_days in
    let same_until : until ≡ last = ap (λ d. d.1) same_days in
    let order : epoch_day from ≤ℤ epoch_day until = search (rules, ordered) in
    (is_from ∙ ap Some same_from, is_until ∙ ap Some same_until, subst (λ (until : Date). epoch_day first ≤ℤ epoch_day until) same_until (subst (λ (from : Date). epoch_day from ≤ℤ epoch_day until) same_from order))

bound_at : (key : List ℕ) (otherwise : Date) (ms : Members) (day : Date) → day_at key otherwise ms ≡ Some day → IsBound key otherwise ms day
bound_at key otherwise ms day e =
    by_Option (get_member key ms) (λ none. inr (none, sym (same_Some _ _ (rw none at e))))
    (λ value is.
    let (text, written, reads) = some_and_then (as_str value) day_of day (rw is at e) in
    let (in_office, same) = written_day text day reads in
    inl (in_office, ap (option_and_then as_str) is ∙ written ∙ ap Some same))

bound_is_day : (key : List ℕ) (otherwise : Date) (ms : Members) (day : Date) → IsDay otherwise → IsBound key otherwise ms day → IsDay day
bound_is_day key otherwise ms day is (inl written) = written.0
bound_is_day key otherwise ms day is (inr missing) = subst IsDay (sym missing.1) is

first_day_is : IsDay first_day
first_day_is = search rules

last_day_is : IsDay last_day
last_day_is = search rules

pub rule_writes_days : (with_days : Bool) (ms : Members) (rule : Rule) → rule_of with_days ms ≡ Some rule → WritesDays ms rule
rule_writes_days with_days ms rule e =
    let bounds = bounds_at ms rule.first rule.last (rule_parts with_days ms rule e).days in
    record {
      first = bound_at (codes "first") first_day ms rule.first bounds.0;
      last = bound_at (codes "last") last_day ms rule.last bounds.1;
    }

pub rule_has_days : (with_days : Bool) (ms : Members) (rule : Rule) → rule_of with_days ms ≡ Some rule → HasDays rule
rule_has_days with_days ms rule e =
    let bounds = bounds_at ms rule.first rule.last (rule_parts with_days ms rule e).days in
    let writes = rule_writes_days with_days ms rule e in
    (bound_is_day (codes "first") first_day ms rule.first first_day_is writes.first, bound_is_day (codes "last") last_day ms rule.last last_day_is writes.last, bounds.2)

-- ---- a rule without days

-- a key that is none of the keys of a table isn't there
no_such_key : (keys : List (List ℕ)) (key : List ℕ) → is_one_of keys key ≡ false → (ms : Members) → list_all (λ entry. is_one_of keys entry.0) (entries ms) ≡ true
    → get_member key ms ≡ None
no_such_key keys key other no_members all = refl
no_such_key keys key other (member l d ms) all =
    let both = and_parts (is_one_of keys l) (list_all (λ entry. is_one_of keys entry.0) (entries ms)) all in
    let none = no_such_key keys key other ms both.1 in
    by_Ordering (slice_cmp nat_cmp key l) (λ less. rw less none)
    (λ equal. let same : key ≡ l = (bytes_eq-Decides key l).0 (sym (is_eq-slice_cmp key l) ∙ ap is_eq equal) in absurd (false≢true (sym other ∙ ap (is_one_of keys) same ∙ both.0)))
    (λ greater. rw greater none)

pub rule_has_no_days : (ms : Members) (rule : Rule) → rule_of false ms ≡ Some rule → HasNoDays rule
rule_has_no_days ms rule e =
    let parts = rule_parts false ms rule e in
    let bounds = bounds_at ms rule.first rule.last parts.days in
    let no_first : first_at ms ≡ Some first_day = ap (day_in first_day) (no_such_key rule_keys (codes "first") refl ms parts.keys) in
    let no_last : last_at ms ≡ Some last_day = ap (day_in last_day) (no_such_key rule_keys (codes "last") refl ms parts.keys) in
    record { first = same_Some _ _ (sym bounds.0 ∙ no_first); last = same_Some _ _ (sym bounds.1 ∙ no_last) }
