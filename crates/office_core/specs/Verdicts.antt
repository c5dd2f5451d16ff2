-- What the office decides, once the facts are known.
use Rattle.std.specs.Prelude.{◌≡◌, ℕ, Bool, true, false, List, [], ◌∷◌, Option, Some, None, option_map, unwrap_or, int_lt, ◌≤ℤ◌, if◌then◌else◌}
use Rattle.jiff.specs.Types.{Date}
use Rattle.jiff.specs.Words.{epoch_day}
use Rattle.office_core.specs.FirstOf.{first_some, answer_if}
use Rattle.office_core.specs.declared.action.Action.{Action}
use Rattle.office_core.specs.declared.action.Action.TheVariants.{Dispose}
use Rattle.office_core.specs.Rules.{allows}
use Rattle.office_core.specs.declared.rule.Effect.TheVariants as effects
use Rattle.office_core.specs.declared.rule.Decision.{Decision}
use Rattle.office_core.specs.declared.retention.Due.{Due}
use Rattle.office_core.specs.declared.retention.Due.TheVariants.{On, Never}
use Rattle.office_core.specs.declared.facts.Facts.{Facts}
use Rattle.office_core.specs.declared.facts.Verdict.{Verdict}
use Rattle.office_core.specs.declared.facts.Verdict.TheVariants.{DeniedByRule, DeniedByDefault, Gone, Held, NotDue, Permanent, Allow}

-- the rule that decides denies, or none decides
abbrev pub denial_verdict : Option Decision → Option Verdict
denial_verdict None = Some DeniedByDefault
denial_verdict (Some decision) = if allows decision.effect then None else Some (DeniedByRule decision.rule)

-- the deposit was destroyed
abbrev pub gone_verdict : Option Date → Option Verdict
gone_verdict day = option_map Gone day

-- a disposal of what a hold covers
abbrev pub hold_verdict : Option ℕ → Option Verdict
hold_verdict hold = option_map Held hold

-- a disposal before the due day, or of what is kept permanently
abbrev pub due_verdict : Date → Due → Option Verdict
due_verdict day (On date) = answer_if (int_lt (epoch_day day) (epoch_day date)) (NotDue date)
due_verdict day Never = Some Permanent

abbrev pub is_dispose : Action → Bool
is_dispose Dispose = true
is_dispose _ = false

-- for a disposal alone
abbrev pub of_disposal : Action → Option Verdict → Option Verdict
of_disposal action verdict = if is_dispose action then verdict else None

-- the refusals, in their order
abbrev pub refusals : Facts → Date → List (Option Verdict)
refusals facts day =
    denial_verdict facts.decision
    ∷ gone_verdict facts.gone
    ∷ of_disposal facts.action (hold_verdict facts.hold)
    ∷ of_disposal facts.action (due_verdict day facts.due)
    ∷ []

-- the first refusal that applies, else `Allow`
abbrev pub verdict_of : Facts → Date → Verdict
verdict_of facts day = unwrap_or (first_some (refusals facts day)) Allow

-- the verdict on a disposal that the rules allow
abbrev pub disposal_of : Option ℕ → Due → Date → Verdict
disposal_of hold due day = unwrap_or (first_some (hold_verdict hold ∷ due_verdict day due ∷ [])) Allow

abbrev pub is_denied : Verdict → Bool
is_denied (DeniedByRule rule) = true
is_denied DeniedByDefault = true
is_denied _ = false

-- the deciding rule allows, the deposit is there, no hold covers it, and its due day is a day that has come
pub record IsReadyForDisposal (facts : Facts) (day : Date) : Type 0 where
  pub decision : Decision
  pub date : Date
  pub decided : facts.decision ≡ Some decision
  pub allowed : decision.effect ≡ effects.Allow
  pub kept : facts.gone ≡ None
  pub unheld : facts.hold ≡ None
  pub due : facts.due ≡ On date
  pub has_come : epoch_day date ≤ℤ epoch_day day
