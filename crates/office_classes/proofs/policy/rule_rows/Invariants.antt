use Rattle.office_classes.proofs.Common.{◌≡◌, ◌+◌, ◌++◌, drop, rule_rows}
use Rattle.office_classes.proofs.policy.rule_rows.Given as goal

abbrev pub invariant-loop-rule : goal.invariant-loop-rule
invariant-loop-rule l = (l.place ≡ l.rule-index + 1) × (l.rows.items ++ rule_rows l.place (drop l.rule-index l.rules) ≡ rule_rows 1 l.rules)
