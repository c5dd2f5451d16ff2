use Rattle.bag_check.proofs.Common.{◌≡◌, map, drop, obeys, listed_seen}
use Rattle.bag_check.proofs.check.check_rules.Given as goal

abbrev pub invariant-loop-rule : goal.invariant-loop-rule
invariant-loop-rule l = obeys l.bag (map listed_seen l.listed) (drop l.rule-index l.rules) ≡ obeys l.bag (map listed_seen l.listed) l.rules
