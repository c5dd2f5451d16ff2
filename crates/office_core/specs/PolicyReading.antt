-- What reading a policy gives, step by step.
use Rattle.std.specs.Prelude.{◌≡◌, ℕ, Bool, ◌||◌, List, length, Option, Some, None, Result, Ok, Err, nat_lt, if◌then◌else◌}
use Rattle.toml.specs.Data.{Data, Members}
use Rattle.bag_text.specs.Answers.{◌>>=◌}
use Rattle.office_core.specs.Bounds.{max_rules, max_callers}
use Rattle.office_core.specs.Policies.{PolicyValue, callers_among, is_bad_among, caller_entries, rules_among, bad_rule_among, rule_values, has_days, has_bad_version, has_unknown_key}
use Rattle.office_core.specs.declared.policy_fault.PolicyFault.{PolicyFault}
use Rattle.office_core.specs.declared.policy_fault.PolicyFault.TheVariants.{BadVersion, UnknownKey, BadCaller, BadRule, TooMany}
use Rattle.office_core.specs.declared.rule.Rule.{Rule}
use Rattle.office_core.specs.declared.caller.Caller.{Caller}
use Rattle.office_core.specs.declared.rule_flaw.RuleFlaw.{RuleFlaw}
use Rattle.office_core.specs.declared.rule_flaw.RuleFlaw.TheVariants.{Bad, Memory}

abbrev pub read_callers : Option (List (List ℕ × Data)) → Result (List Caller) PolicyFault
read_callers found = if is_bad_among found then Err BadCaller else Ok (callers_among found)

abbrev pub rules_or : List Rule → Option ℕ → Result (List Rule) PolicyFault
rules_or rules (Some number) = Err (BadRule number)
rules_or rules None = Ok rules

abbrev pub read_rules : Bool → Option (List Data) → Result (List Rule) PolicyFault
read_rules with_days found = rules_or (rules_among with_days found) (bad_rule_among with_days found)

abbrev pub policy_within_limits : List Caller → List Rule → Result PolicyValue PolicyFault
policy_within_limits callers rules =
    if nat_lt max_rules (length rules) || nat_lt max_callers (length callers) then Err TooMany else Ok (record { callers = callers; rules = rules })

-- what reading a tree gives
abbrev pub read_members : Members → Result PolicyValue PolicyFault
read_members tree =
    if has_bad_version tree then Err BadVersion
    else if has_unknown_key tree then Err UnknownKey
    else (read_callers (caller_entries tree) >>= λ callers. read_rules (has_days tree) (rule_values tree) >>= λ rules. policy_within_limits callers rules)

-- a part of a rule is read, or isn't there, unless memory runs out
abbrev pub Reads : {A : Type 0} → Result A RuleFlaw → Option A → Type 0
Reads (Ok x) found = found ≡ Some x
Reads (Err Bad) found = found ≡ None
Reads (Err Memory) found = Unit {0}
