use Rattle.office_tables.proofs.Lemmas.{rules, refl, with_rule, with_rules, in_turn, turn_failed, puts_next}
use Rattle.office_tables.proofs.policy.add_rules.Goals as goal

pub loop-rule-preserved : goal.loop-rule-preserved
loop-rule-preserved g c =
    let added = c.in_ok-add_rule in
    puts_next with_rule with_rules (λ x xs t. refl) c.args.rules.now c.loop-rule.rule-index c.rule-item.result c.rule-item.is (search rules) c.loop-rule.invariant added.ensures.inside added.ensures.becomes added.ensures.contents

pub returns-in_err-add_rule-clause-inside : goal.returns-in_err-add_rule-clause-inside
returns-in_err-add_rule-clause-inside g c = turn_failed c.loop-rule.invariant.inside (in_turn c.add_rule.ensures.inside) _ (search rules) (search rules)
