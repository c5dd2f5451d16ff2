use Rattle.test_plain.proofs.Common.{new}
use Rattle.test_plain.proofs.history.Office.create.Goals as goal

pub returns-clause-legal : goal.returns-clause-legal
returns-clause-legal c =
    rw c.new.ensures.items
    (new c.args.limits.deposits c.args.limits.holds c.args.limits.deposits_limit c.args.limits.holds_limit)
