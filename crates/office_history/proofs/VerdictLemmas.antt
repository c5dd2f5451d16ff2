-- The refusals of what is asked of a deposit are those of the verdict on what is known of it.
use Rattle.office_history.proofs.Common.{◌≡◌, ◌∙◌, ℕ, List, [], ◌∷◌, Option, Some, None, int_lt, refl, ap, unwrap_or, Date, epoch_day, first_some, allows, verdict_of, Action, Refusal, Due, On, Never, Decision, Dispose, History, Deposit, deposit_numbered, destruction_day, due, least_hold, refusal_of, refusal_in, deciding_rule_at, facts_of, asked_refusals, disposal_refusals, of_deposit, refusal, by_Bool, by_Option}
use Rattle.office_core.specs.Verdicts as deciding
use Rattle.office_core.specs.declared.action.Action.TheVariants as acts
use Rattle.office_core.specs.declared.facts.Verdict.{Verdict}
use Rattle.office_core.specs.declared.facts.Verdict.TheVariants.{Allow}

-- verdicts that each refuse, where they apply
abbrev first_verdict : List (Option Verdict) → Option Refusal
first_verdict verdicts = refusal_of (unwrap_or (first_some verdicts) Allow)

-- the rules refuse first, then that the deposit is gone
by_rules : (decision : Option Decision) (day : Option Date) (verdicts : List (Option Verdict)) (refusals : List (Option Refusal)) → first_some refusals ≡ first_verdict verdicts
    → first_some (refusal_in (deciding.denial_verdict decision) ∷ refusal_in (deciding.gone_verdict day) ∷ refusals) ≡ first_verdict (deciding.denial_verdict decision ∷ deciding.gone_verdict day ∷ verdicts)
by_rules None day verdicts refusals same = refl
by_rules (Some decision) day verdicts refusals same =
    by_Bool (allows decision.effect) (λ allowed. rw allowed (by_Option day (λ kept. rw kept same) (λ on gone. rw gone refl))) (λ denied. rw denied refl)

-- and of a disposal a hold, and the due day
by_hold : (hold : Option ℕ) (day : Date) (due : Due) → first_some (refusal_in (deciding.hold_verdict hold) ∷ refusal_in (deciding.due_verdict day due) ∷ []) ≡ first_verdict (deciding.hold_verdict hold ∷ deciding.due_verdict day due ∷ [])
by_hold (Some k) day due = refl
by_hold None day Never = refl
by_hold None day (On date) = by_Bool (int_lt (epoch_day day) (epoch_day date)) (λ early. rw early refl) (λ past. rw past refl)

pub asked_verdict : (h : History) (day : Date) (caller : List ℕ) (action : Action) (n : ℕ) (deposit : Deposit)
    → first_some (asked_refusals h day caller action n deposit) ≡ refusal_of (verdict_of (facts_of h day caller action n deposit) day)
asked_verdict h day caller acts.Dispose n deposit =
    by_rules (deciding_rule_at h day caller acts.Dispose deposit) (destruction_day h n) (deciding.hold_verdict (least_hold h n deposit) ∷ deciding.due_verdict day (due h deposit) ∷ []) (refusal_in (deciding.hold_verdict (least_hold h n deposit)) ∷ refusal_in (deciding.due_verdict day (due h deposit)) ∷ [])
    (by_hold (least_hold h n deposit) day (due h deposit))
asked_verdict h day caller action n deposit = by_rules (deciding_rule_at h day caller action deposit) (destruction_day h n) (None ∷ None ∷ []) [] refl

pub disposal_verdict : (h : History) (day : Date) (caller : List ℕ) (n : ℕ) (found : Date × Deposit) → deposit_numbered h n ≡ Some found
    → refusal h day caller (Dispose n) ≡ refusal_of (verdict_of (facts_of h day caller acts.Dispose n found.1) day)
disposal_verdict h day caller n found there =
    ap (λ (x : Option (Date × Deposit)). first_some (of_deposit x (disposal_refusals h day caller n))) there
    ∙ asked_verdict h day caller acts.Dispose n found.1
