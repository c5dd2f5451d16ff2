use Rattle.bag_check.proofs.Common.{◌≡◌, map, drop, first_breach, listed_seen}
use Rattle.bag_check.proofs.breach.first_breach.Given as goal

abbrev pub invariant-loop-one : goal.invariant-loop-one
invariant-loop-one l = first_breach l.bag l.rule (map listed_seen (drop l.one-index l.listed)) ≡ first_breach l.bag l.rule (map listed_seen l.listed)
