use Rattle.office_core.proofs.Lemmas.{◌≡◌, Ok, arith, table_view, caller_entries, has_days, rule_values, read_callers, read_rules, read_policy_is}
use Rattle.office_core.proofs.policy.read_tree.Goals as goal

pub invariant_of-result : goal.invariant_of-result
invariant_of-result c =
    let tree = table_view c.args.tree.now in
    let callers : read_callers (caller_entries tree) ≡ Ok c.in_ok-callers.callers.items = rw c.in_ok-callers.was at c.callers_of.ensures in
    let rules : read_rules (has_days tree) (rule_values tree) ≡ Ok c.in_ok-rules.rules.items = rw c.in_ok-rules.was at c.rules_of.ensures in
    read_policy_is tree c.in_ok-callers.callers.items c.in_ok-rules.rules.items c.requires callers rules (omega arith) (omega arith)
