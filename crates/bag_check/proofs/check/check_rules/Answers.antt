use Rattle.bag_check.proofs.Lemmas.{◌∙◌, map, ap, sym, drop_all, err_from_is_err_and, fails_on, OutsidePayload, obeys, listed_seen, named_fault, keeps_from}
use Rattle.bag_check.proofs.check.check_rules.Goals as goal

pub returns-in_err-check_rule : goal.returns-in_err-check_rule
returns-in_err-check_rule c =
    let p = err_from_is_err_and c.from_residual.result c.from_residual.ensures.1 in
    let left = keeps_from c.args.bag.now (map listed_seen c.args.listed.now) c.args.rules.now c.loop-rule.rule-index OutsidePayload (obeys c.args.bag.now (map listed_seen c.args.listed.now) c.args.rules.now) c.loop-rule-test.true c.loop-rule.invariant in
    rw (p.1, p.2) (fails_on (named_fault c.in_err-check_rule.field-0.0) _ _ (λ f e. sym (rw e at left)) c.in_err-check_rule.ensures)

pub loop-rule-preserved : goal.loop-rule-preserved
loop-rule-preserved c = rw c.in_ok-check_rule.ensures at (keeps_from c.args.bag.now (map listed_seen c.args.listed.now) c.args.rules.now c.loop-rule.rule-index OutsidePayload (obeys c.args.bag.now (map listed_seen c.args.listed.now) c.args.rules.now) c.loop-rule-test.true c.loop-rule.invariant)

pub returns : goal.returns
unfolding obeys
returns c = sym c.loop-rule.invariant ∙ ap (obeys c.args.bag.now (map listed_seen c.args.listed.now)) (drop_all c.loop-rule.rule-index c.args.rules.now c.loop-rule-test.false)
