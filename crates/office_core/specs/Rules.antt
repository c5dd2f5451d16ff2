-- When a rule matches what is asked, and which rule decides.
use Rattle.std.specs.Prelude.{◌≡◌, ◌<◌, ℕ, ◌+◌, Bool, true, false, ◌&&◌, int_le, List, Option, Some, bytes_eq, position, slice_get, option_map, option_and_then, option_copied}
use Rattle.std.specs.Option.{option_map_or}
use Rattle.std.specs.List.{list_any, AllByRecursion}
use Rattle.jiff.specs.Types.{Date}
use Rattle.jiff.specs.Words.{epoch_day}
use Rattle.office_core.specs.Actions.{action_text}
use Rattle.office_core.specs.Days.{first_day, last_day}
use Rattle.office_core.specs.declared.action.Action.{Action}
use Rattle.office_core.specs.declared.rule.Effect.{Effect}
use Rattle.office_core.specs.declared.rule.Effect.TheVariants.{Allow, Deny}
use Rattle.office_core.specs.declared.rule.Pattern.{Pattern}
use Rattle.office_core.specs.declared.rule.Pattern.TheVariants as names
use Rattle.office_core.specs.declared.rule.ActionPattern.{ActionPattern}
use Rattle.office_core.specs.declared.rule.ActionPattern.TheVariants as acts
use Rattle.office_core.specs.declared.rule.Rule.{Rule}
use Rattle.office_core.specs.declared.rule.Ask.{Ask}
use Rattle.office_core.specs.declared.rule.Decision.{Decision}

-- what is asked: a role, an action, a collection and a class, each of which may be absent, and the day on which it is asked
pub record Question : Type 0 where
  pub role : List ℕ
  pub action : Action
  pub collection : Option (List ℕ)
  pub class : Option (List ℕ)
  pub day : Date

abbrev pub question_of : Ask → Question
question_of ask = record {
  role = ask.role.now;
  action = ask.action;
  collection = option_copied ask.collection;
  class = option_copied ask.class;
  day = ask.day;
}

-- the same, asked on another day
abbrev pub asked_on : Date → Question → Question
asked_on day asked = record { role = asked.role; action = asked.action; collection = asked.collection; class = asked.class; day = day }

abbrev pub allows : Effect → Bool
allows Allow = true
allows Deny = false

-- `*` matches every name, and a name itself alone
abbrev pub matches_name : Pattern → List ℕ → Bool
matches_name names.Any name = true
matches_name (names.Named only) name = bytes_eq only name

-- and `*` an absent name too, which no name matches
abbrev pub matches_optional : Pattern → Option (List ℕ) → Bool
matches_optional names.Any name = true
matches_optional (names.Named only) name = option_map_or (bytes_eq only) name false

abbrev pub matches_action : ActionPattern → Action → Bool
matches_action acts.Any action = true
matches_action (acts.Only only) action = bytes_eq (action_text only) (action_text action)

-- the day is one of those from the rule's first to its last, both included
abbrev pub counts_on : Rule → Date → Bool
counts_on rule day = int_le (epoch_day rule.first) (epoch_day day) && int_le (epoch_day day) (epoch_day rule.last)

-- a rule that counts on each day of the office
pub record HasNoDays (rule : Rule) : Type 0 where
  pub first : rule.first ≡ first_day
  pub last : rule.last ≡ last_day

-- all four patterns match
abbrev pub patterns_match : Rule → Question → Bool
patterns_match rule asked =
    matches_name rule.role asked.role && matches_action rule.action asked.action
    && matches_optional rule.collection asked.collection && matches_optional rule.class asked.class

-- and the rule counts on the day
abbrev pub matches : Rule → Question → Bool
matches rule asked = patterns_match rule asked && counts_on rule asked.day

-- the least place, from 0, of a rule that matches
abbrev pub first_place : List Rule → Question → Option ℕ
first_place rules asked = position (λ rule. matches rule asked) rules

-- the rule at that place, from 0, matches, and none before it does
pub record IsFirstMatch (rules : List Rule) (asked : Question) (place : ℕ) : Type 0 where
  pub rule : Rule
  pub at : slice_get rules place ≡ Some rule
  pub matched : matches rule asked ≡ true
  pub before : (earlier : ℕ) (other : Rule) → earlier < place → slice_get rules earlier ≡ Some other → matches other asked ≡ false

-- no rule matches
abbrev pub NoneMatches : List Rule → Question → Type 0
NoneMatches rules asked = AllByRecursion (λ rule. matches rule asked ≡ false) rules

-- the number of a rule, from 1, and its effect
abbrev pub decision_at : ℕ → Rule → Decision
decision_at place rule = record { rule = place + 1; effect = rule.effect }

-- the rule that decides, if one matches
abbrev pub decision_of : List Rule → Question → Option Decision
decision_of rules asked = option_and_then (λ place. option_map (decision_at place) (slice_get rules place)) (first_place rules asked)

-- some rule that allows has a role pattern that matches the role
abbrev pub some_rule_allows : List Rule → List ℕ → Bool
some_rule_allows rules role = list_any (λ rule. allows rule.effect && matches_name rule.role role) rules
