use Rattle.fault_words.proofs.Common.{◌≡◌, members_view, unknown_rule_key}
use Rattle.fault_words.proofs.rule_location.unknown_rule_key.Given as goal

abbrev pub invariant-loop-key : goal.invariant-loop-key
invariant-loop-key l =
    (goal.iterator-loop-key).can_next l.key-iterator
    × (goal.iterator-loop-key).is_finite l.key-iterator
    × (unknown_rule_key l.with_days (members_view l.key-iterator) ≡ unknown_rule_key l.with_days (members_view l.rule.entries))
