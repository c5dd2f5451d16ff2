-- The policy file: the callers and the rules that the tree of a TOML text spells, and its faults.
use Rattle.std.specs.Prelude.{◌≡◌, ◌≢◌, ◌≤◌, ◌≤ℤ◌, ◌⊎◌, ℕ, suc, ℤ, pos, int_le, Bool, true, false, not, ◌&&◌, ◌||◌, List, [], ◌∷◌, ◌++◌, length, Option, Some, None, Result, Ok, Err, is_none, nat_lt, codes, bytes_eq, find, slice_get, option_map, option_and_then, unwrap_or, if◌then◌else◌}
use Rattle.std.specs.List.{list_all, list_any, filter_map, AllByRecursion}
use Rattle.std.specs.Option.{option_map_or}
use Rattle.std.specs.Ordering.{int_eq}
use Rattle.toml.specs.Data.{Data, Items, no_items, item, Members, no_members, member, get_member, as_str, as_integer, as_table, as_array}
use Rattle.toml.specs.Parse.{parse_document}
use Rattle.jiff.specs.Types.{Date}
use Rattle.jiff.specs.Words.{epoch_day}
use Rattle.office_core.specs.Bounds.{max_rules, max_callers}
use Rattle.office_core.specs.Days.{first_day, last_day, IsDay, day_text}
use Rattle.office_core.specs.DayReading.{day_of}
use Rattle.office_core.specs.FirstOf.{◌>>=◌, first_some, answer_if}
use Rattle.office_core.specs.Names.{is_name, IsName}
use Rattle.office_core.specs.Actions.{action_of}
use Rattle.office_core.specs.declared.policy_fault.PolicyFault.{PolicyFault}
use Rattle.office_core.specs.declared.policy_fault.PolicyFault.TheVariants.{NotToml, BadVersion, UnknownKey, BadCaller, BadRule, TooMany, Memory}
use Rattle.office_core.specs.declared.rule.Effect.{Effect}
use Rattle.office_core.specs.declared.rule.Effect.TheVariants.{Allow, Deny}
use Rattle.office_core.specs.declared.rule.Pattern.{Pattern}
use Rattle.office_core.specs.declared.rule.Pattern.TheVariants as names
use Rattle.office_core.specs.declared.rule.ActionPattern.{ActionPattern}
use Rattle.office_core.specs.declared.rule.ActionPattern.TheVariants as acts
use Rattle.office_core.specs.declared.rule.Rule.{Rule}
use Rattle.office_core.specs.declared.caller.Caller.{Caller}

-- a policy: its callers, each with its role, and its rules in their order
pub record PolicyValue : Type 0 where
  pub callers : List Caller
  pub rules : List Rule

-- the keys of a table with their values, and the values of an array
abbrev pub entries : Members → List (List ℕ × Data)
entries no_members = []
entries (member key value more) = (key, value) ∷ entries more

abbrev pub elements : Items → List Data
elements no_items = []
elements (item value more) = value ∷ elements more

abbrev pub is_one_of : List (List ℕ) → List ℕ → Bool
is_one_of keys key = list_any (bytes_eq key) keys

-- ---- callers

-- a caller and its role, both names
abbrev pub caller_in : List ℕ × Data → Option Caller
caller_in entry = do
  role ← as_str entry.1
  answer_if (is_name entry.0 && is_name role) (record { name = entry.0; role = role })

-- the entries of the table `callers`, none where it isn't there; nothing where it is no table
abbrev pub table_entries : Option Data → Option (List (List ℕ × Data))
table_entries None = Some []
table_entries (Some value) = option_map entries (as_table value)

abbrev pub caller_entries : Members → Option (List (List ℕ × Data))
caller_entries tree = table_entries (get_member (codes "callers") tree)

abbrev pub callers_among : Option (List (List ℕ × Data)) → List Caller
callers_among found = option_map_or (filter_map caller_in) found []

abbrev pub is_bad_among : Option (List (List ℕ × Data)) → Bool
is_bad_among found = option_map_or (list_any (λ entry. is_none (caller_in entry))) found true

abbrev pub callers_of : Members → List Caller
callers_of tree = callers_among (caller_entries tree)

-- ---- rules

abbrev pub effect_in : List ℕ → Option Effect
effect_in text = if bytes_eq text (codes "allow") then Some Allow else answer_if (bytes_eq text (codes "deny")) Deny

-- `*` or a name
abbrev pub pattern_in : List ℕ → Option Pattern
pattern_in text = if bytes_eq text (codes "*") then Some names.Any else answer_if (is_name text) (names.Named text)

-- `*` or an action
abbrev pub action_pattern_in : List ℕ → Option ActionPattern
action_pattern_in text = if bytes_eq text (codes "*") then Some acts.Any else option_map acts.Only (action_of text)

-- the keys that every rule has
abbrev pub rule_keys : List (List ℕ)
rule_keys = codes "effect" ∷ codes "role" ∷ codes "action" ∷ codes "collection" ∷ codes "class" ∷ []

-- and those that it may have where the policy's rules have days
abbrev pub day_keys : List (List ℕ)
day_keys = codes "first" ∷ codes "last" ∷ []

-- the keys that a rule may have
abbrev pub keys_of_rule : Bool → List (List ℕ)
keys_of_rule true = rule_keys ++ day_keys
keys_of_rule false = rule_keys

-- the text at a key
abbrev pub text_at : List ℕ → Members → Option (List ℕ)
text_at key ms = option_and_then as_str (get_member key ms)

abbrev pub effect_at : Members → Option Effect
effect_at ms = text_at (codes "effect") ms >>= effect_in

abbrev pub pattern_at : List ℕ → Members → Option Pattern
pattern_at key ms = text_at key ms >>= pattern_in

abbrev pub action_at : Members → Option ActionPattern
action_at ms = text_at (codes "action") ms >>= action_pattern_in

-- the day that a value writes; where there is no value, the one that is given
abbrev pub day_in : Date → Option Data → Option Date
day_in otherwise None = Some otherwise
day_in otherwise (Some value) = as_str value >>= day_of

-- the day at a key; where the key isn't there, the one that is given
abbrev pub day_at : List ℕ → Date → Members → Option Date
day_at key otherwise ms = day_in otherwise (get_member key ms)

-- the first day on which a rule counts, and the last
abbrev pub first_at : Members → Option Date
first_at ms = day_at (codes "first") first_day ms

abbrev pub last_at : Members → Option Date
last_at ms = day_at (codes "last") last_day ms

-- the days from one to the other, of which there is one at least
abbrev pub days_from : Date → Date → Option (Date × Date)
days_from first last = answer_if (int_le (epoch_day first) (epoch_day last)) (first, last)

abbrev pub days_at : Members → Option (Date × Date)
days_at ms = first_at ms >>= λ first. last_at ms >>= λ last. days_from first last

-- The rule that a table spells: it has exactly the five keys, and where the policy's rules have days it may have `first` and `last`.
unfoldable pub rule_of : Bool → Members → Option Rule
rule_of with_days ms = if list_all (λ entry. is_one_of (keys_of_rule with_days) entry.0) (entries ms) then (do
  effect ← effect_at ms
  role ← pattern_at (codes "role") ms
  action ← action_at ms
  collection ← pattern_at (codes "collection") ms
  class ← pattern_at (codes "class") ms
  (first, last) ← days_at ms
  Some (record { effect = effect; role = role; action = action; collection = collection; class = class; first = first; last = last })) else None

abbrev pub rule_of_value : Bool → Data → Option Rule
rule_of_value with_days value = as_table value >>= rule_of with_days

-- the values of the array `rule`, none where it isn't there; nothing where it is no array
abbrev pub array_elements : Option Data → Option (List Data)
array_elements None = Some []
array_elements (Some value) = option_map elements (as_array value)

abbrev pub rule_values : Members → Option (List Data)
rule_values tree = array_elements (get_member (codes "rule") tree)

-- the place of the first value that spells no rule, counted from that number
abbrev pub first_bad : Bool → ℕ → List Data → Option ℕ
first_bad with_days number [] = None
first_bad with_days number (value ∷ more) = if is_none (rule_of_value with_days value) then Some number else first_bad with_days (suc number) more

abbrev pub rules_among : Bool → Option (List Data) → List Rule
rules_among with_days found = option_map_or (filter_map (rule_of_value with_days)) found []

abbrev pub bad_rule_among : Bool → Option (List Data) → Option ℕ
bad_rule_among with_days found = option_map_or (first_bad with_days 1) found (Some 0)

-- ---- versions

-- the whole number at `version`
abbrev pub version_number_in : Members → Option ℤ
version_number_in tree = option_and_then as_integer (get_member (codes "version") tree)

abbrev pub has_version_number : ℤ → Members → Bool
has_version_number number tree = option_map_or (int_eq number) (version_number_in tree) false

-- under version 2 rules may have days
abbrev pub has_days : Members → Bool
has_days tree = has_version_number (pos 2) tree

-- the same of a text: its tree is of version 2
abbrev pub may_have_days : List ℕ → Bool
may_have_days text = option_map_or has_days (parse_document text) false

abbrev pub rules_of : Members → List Rule
rules_of tree = rules_among (has_days tree) (rule_values tree)

-- the number of the first bad rule, from 1, or 0 where there is no array of rules
abbrev pub bad_rule : Members → Option ℕ
bad_rule tree = bad_rule_among (has_days tree) (rule_values tree)

-- ---- the faults of a tree, and what it spells

-- Y2: the version is missing, or is neither the whole number 1 nor 2
abbrev pub has_bad_version : Members → Bool
has_bad_version tree = not (has_version_number (pos 1) tree || has_version_number (pos 2) tree)

abbrev pub top_keys : List (List ℕ)
top_keys = codes "version" ∷ codes "callers" ∷ codes "rule" ∷ []

-- Y3: a key at the top is none of the three
abbrev pub has_unknown_key : Members → Bool
has_unknown_key tree = not (list_all (λ entry. is_one_of top_keys entry.0) (entries tree))

-- Y4: `callers` is no table, or a key or a role in it is no name
abbrev pub has_bad_caller : Members → Bool
has_bad_caller tree = is_bad_among (caller_entries tree)

-- Y6: more than 200 rules or 1,000 callers
abbrev pub has_too_many : Members → Bool
has_too_many tree = nat_lt max_rules (length (rules_of tree)) || nat_lt max_callers (length (callers_of tree))

-- the faults from Y2 to Y6, each where it applies
abbrev pub faults : Members → List (Option PolicyFault)
faults tree =
    answer_if (has_bad_version tree) BadVersion
    ∷ answer_if (has_unknown_key tree) UnknownKey
    ∷ answer_if (has_bad_caller tree) BadCaller
    ∷ option_map BadRule (bad_rule tree)
    ∷ answer_if (has_too_many tree) TooMany
    ∷ []

abbrev pub policy_in_tree : Members → PolicyValue
policy_in_tree tree = record { callers = callers_of tree; rules = rules_of tree }

-- a fault, or else the contents
abbrev pub policy_unless : PolicyValue → Option PolicyFault → Result PolicyValue PolicyFault
policy_unless contents (Some fault) = Err fault
policy_unless contents None = Ok contents

abbrev pub read_tree : Option Members → Result PolicyValue PolicyFault
read_tree None = Err NotToml
read_tree (Some tree) = policy_unless (policy_in_tree tree) (first_some (faults tree))

-- Y1 where the text is no TOML, else what its tree gives
abbrev pub policy_of : List ℕ → Result PolicyValue PolicyFault
policy_of text = read_tree (parse_document text)

-- this is the policy of a text: its tree has no fault, and spells these callers and rules
pub record SpellsPolicy (text : List ℕ) (policy : PolicyValue) : Type 0 where
  pub tree : Members
  pub parsed : parse_document text ≡ Some tree
  pub sound : first_some (faults tree) ≡ None
  pub is : policy ≡ policy_in_tree tree

-- each value gives the item at its place, and there are as many items as values
pub record GivesEach {A B : Type 0} (read : A → Option B) (values : List A) (items : List B) : Type 0 where
  pub count : length items ≡ length values
  pub each : (place : ℕ) → slice_get items place ≡ option_and_then read (slice_get values place)

-- the values of the array `rule` of a tree give these rules, each in its place
abbrev pub SpellsRules : Members → List Rule → Type 0
SpellsRules tree rules = (values : List Data) × (rule_values tree ≡ Some values) × GivesEach (rule_of_value (has_days tree)) values rules

-- the table at that place, from 0, of the array `rule`
abbrev pub rule_table_at : Members → ℕ → Option Members
rule_table_at tree place = option_and_then as_table (option_and_then (λ values. slice_get values place) (rule_values tree))

-- the key has the text of the day, or isn't there, and the day is the one that is given
abbrev pub IsBound : List ℕ → Date → Members → Date → Type 0
IsBound key otherwise ms day =
    (IsDay day × (text_at key ms ≡ Some (day_text day)))
    ⊎ ((get_member key ms ≡ None) × (day ≡ otherwise))

-- the days of a rule are those that its table writes, the first and the last of the office where it writes none
pub record WritesDays (ms : Members) (rule : Rule) : Type 0 where
  pub first : IsBound (codes "first") first_day ms rule.first
  pub last : IsBound (codes "last") last_day ms rule.last

-- the entries of the table `callers` of a tree give these callers, each in its place
abbrev pub SpellsCallers : Members → List Caller → Type 0
SpellsCallers tree callers = (found : List (List ℕ × Data)) × (caller_entries tree ≡ Some found) × GivesEach caller_in found callers

-- this is the first fault of a text: it is no TOML, or its tree has the fault
abbrev pub HasFirstFault : List ℕ → PolicyFault → Type 0
HasFirstFault text fault =
    ((parse_document text ≡ None) × (fault ≡ NotToml))
    ⊎ ((tree : Members) × (parse_document text ≡ Some tree) × (first_some (faults tree) ≡ Some fault))

-- ---- what every policy has

-- a pattern asks for everything, or for a name
abbrev pub IsNamed : Pattern → Type 0
IsNamed names.Any = Unit {0}
IsNamed (names.Named only) = IsName only

-- a rule asks for names
abbrev pub HasNames : Rule → Type 0
HasNames rule = IsNamed rule.role × IsNamed rule.collection × IsNamed rule.class

-- the days of a rule are days of the office, the first not after the last
abbrev pub HasDays : Rule → Type 0
HasDays rule = IsDay rule.first × IsDay rule.last × (epoch_day rule.first ≤ℤ epoch_day rule.last)

-- a caller and its role are names
abbrev pub IsNamedCaller : Caller → Type 0
IsNamedCaller caller = IsName caller.name × IsName caller.role

-- each caller occurs once: no later one has its name
abbrev pub EachCallerOnce : List Caller → Type 0
EachCallerOnce [] = Unit {0}
EachCallerOnce (caller ∷ more) = AllByRecursion (λ other. caller.name ≢ other.name) more × EachCallerOnce more

pub record IsPolicy (policy : PolicyValue) : Type 0 where
  pub rules_ask_for_names : AllByRecursion HasNames policy.rules
  pub rules_have_days : AllByRecursion HasDays policy.rules
  pub callers_are_names : AllByRecursion IsNamedCaller policy.callers
  pub callers_stand_once : EachCallerOnce policy.callers
  pub few_rules : length policy.rules ≤ max_rules
  pub few_callers : length policy.callers ≤ max_callers

-- ---- what a call answers, unless memory runs out
-- The fault that an answer names: none where memory ran out, which says nothing of the text.
abbrev pub named_policy_fault : PolicyFault → Option PolicyFault
named_policy_fault Memory = None
named_policy_fault fault = Some fault

-- the role that is given, else `stranger`
abbrev pub or_stranger : Option (List ℕ) → List ℕ
or_stranger role = unwrap_or role (codes "stranger")

-- the role that a policy gives a caller, else `stranger`
abbrev pub role_of : PolicyValue → List ℕ → List ℕ
role_of policy name = or_stranger (option_map (λ caller. caller.role) (find (λ caller. bytes_eq caller.name name) policy.callers))
