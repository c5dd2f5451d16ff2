use Rattle.office_queries.proofs.Common.{take, contains_text, AreSpelled}
use Rattle.office_queries.proofs.kinds.spelled_by.Given as goal

abbrev pub invariant-loop-rule : goal.invariant-loop-rule
invariant-loop-rule l = AreSpelled (contains_text l.collections) (contains_text l.classes) (take l.rule-index l.rules)
