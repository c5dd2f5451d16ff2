use Rattle.test_plain.proofs.Common.{◌≡◌, ◌∙◌, ap, sym, facts_of, refusal_of}
use Rattle.office_core.specs.Verdicts.{verdict_of}
use Rattle.office_core.specs.declared.facts.Facts.{Facts}
use Rattle.office_history.proofs.VerdictLemmas.{asked_verdict}
use Rattle.test_plain.proofs.refusals.first_asked_refusal.Goals as goal

pub returns : goal.returns
returns c =
    let known : c.in_ok-facts.facts ≡ facts_of c.args.office.now c.args.day c.args.caller.now c.args.action c.args.number c.args.deposit.now = rw c.in_ok-facts.was at c.facts_of.ensures in
    c.refusal_of.ensures
    ∙ ap refusal_of c.verdict.ensures
    ∙ ap (λ (facts : Facts). refusal_of (verdict_of facts c.args.day)) known
    ∙ sym (asked_verdict c.args.office.now c.args.day c.args.caller.now c.args.action c.args.number c.args.deposit.now)
