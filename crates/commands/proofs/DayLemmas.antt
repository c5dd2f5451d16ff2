-- Where the rules of a policy may have no days, they decide alike on each day.
use Rattle.commands.proofs.Common.{◌≡◌, ℕ, List, Ok, false, Date, PolicyValue, may_have_days, read_is_spelled, SpellsPolicyBytes}
use Rattle.office_core.specs.Days.{IsDay}
use Rattle.office_core.specs.Rules.{Question, asked_on, decision_of}
use Rattle.office_core.proofs.PolicyDays.{no_days_told}
use Rattle.office_core.proofs.RuleLemmas.{decided_alike}

pub alike_on_each_day : (bytes : List ℕ) (policy : PolicyValue) (asked : Question) (day other : Date) → SpellsPolicyBytes bytes policy → may_have_days bytes ≡ false → IsDay day → IsDay other
    → decision_of policy.rules (asked_on day asked) ≡ decision_of policy.rules (asked_on other asked)
alike_on_each_day bytes policy asked day other spells without is is_too =
    decided_alike policy.rules asked day other (no_days_told bytes policy (read_is_spelled bytes (Ok policy) spells.read) without) is is_too
