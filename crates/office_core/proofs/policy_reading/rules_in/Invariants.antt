use Rattle.office_core.proofs.Common.{◌≡◌, ◌++◌, suc, length, drop, filter_map, items_view, elements, rule_of_value, first_bad}
use Rattle.office_core.proofs.policy_reading.rules_in.Given as goal

abbrev pub invariant-loop-value : goal.invariant-loop-value
invariant-loop-value l =
    (length l.rules.items ≡ l.value-index)
    × (first_bad l.with_days 1 (elements (items_view l.value-items)) ≡ first_bad l.with_days (suc l.value-index) (elements (items_view (drop l.value-index l.value-items))))
    × (filter_map (rule_of_value l.with_days) (elements (items_view l.value-items)) ≡ l.rules.items ++ filter_map (rule_of_value l.with_days) (elements (items_view (drop l.value-index l.value-items))))
