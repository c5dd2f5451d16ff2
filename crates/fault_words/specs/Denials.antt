-- What is said where a policy denies what is asked: the rule that denies, or that none matches.
use Rattle.std.specs.Prelude.{ℕ, Bool, List, [], ◌++◌, ◌&&◌, codes, decimal, int_le, if◌then◌else◌}
use Rattle.jiff.specs.Words.{epoch_day}
use Rattle.office_core.specs.Actions.{action_text}
use Rattle.office_core.specs.Days.{day_text, first_day, last_day}
use Rattle.office_core.specs.declared.rule.Pattern.{Pattern}
use Rattle.office_core.specs.declared.rule.Pattern.TheVariants as names
use Rattle.office_core.specs.declared.rule.ActionPattern.{ActionPattern}
use Rattle.office_core.specs.declared.rule.ActionPattern.TheVariants as acts
use Rattle.office_core.specs.declared.rule.Rule.{Rule}

-- what a rule asks of a role, a collection or a class
abbrev pub pattern_words : List ℕ → Pattern → List ℕ
pattern_words what names.Any = codes "any " ++ what
pattern_words what (names.Named only) = what ++ codes " " ++ only

-- and of an action
abbrev pub action_words : ActionPattern → List ℕ
action_words acts.Any = codes "any action"
action_words (acts.Only only) = codes "action " ++ action_text only

-- the rule counts on each day of the office
abbrev pub counts_always : Rule → Bool
counts_always rule = int_le (epoch_day rule.first) (epoch_day first_day) && int_le (epoch_day last_day) (epoch_day rule.last)

-- the days on which it counts, where these aren't all
abbrev pub days_words : Rule → List ℕ
days_words rule = if counts_always rule then [] else codes ", from " ++ day_text rule.first ++ codes " to " ++ day_text rule.last

-- the collections, the classes and the days of which it speaks
abbrev pub scope_words : Rule → List ℕ
scope_words rule = pattern_words (codes "collection") rule.collection ++ codes ", " ++ pattern_words (codes "class") rule.class ++ days_words rule

-- the rule of this number denies
abbrev pub denial_words : ℕ → Rule → List ℕ
denial_words number rule =
    codes "rule " ++ decimal number ++ codes " of the policy denies it: " ++ pattern_words (codes "role") rule.role ++ codes ", " ++ action_words rule.action ++ codes ", " ++ scope_words rule

-- no rule matches
abbrev pub undecided_words : List ℕ
undecided_words = codes "no rule of the policy matches, so it is denied by default"
