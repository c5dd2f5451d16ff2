use Rattle.office_tables.proofs.Lemmas.{drop, with_rules, ArePut}
use Rattle.office_tables.proofs.policy.add_rules.Given as goal

abbrev pub invariant-loop-rule : goal.invariant-loop-rule
invariant-loop-rule g l = ArePut g.S.Store with_rules l.rules (drop l.rule-index l.rules) l.fn.tx.conn l.tx.conn
