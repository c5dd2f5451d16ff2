use Rattle.office_classes.proofs.Common.{rules, ◌≡◌, map, caller_row, rule_rows, installed, changes_by}
use Rattle.office_classes.proofs.policy.install.Goals as goal

pub returns-clause-changes : goal.returns-clause-changes
returns-clause-changes g c =
    let p = c.args.policy.now in
    let callers : c.deref.result.now ≡ map caller_row p.callers = search rules in
    let rules_put : c.deref-2.result.now ≡ rule_rows 1 p.rules = search rules in
    let put = c.put_policy.ensures in
    changes_by put.inside (installed p) (rw (callers, rules_put) at put.becomes) put.contents
