use Rattle.test_plain.proofs.Common.{sym, subst, IsLegal, step}
use Rattle.test_plain.proofs.history.Office.step.Goals as goal

pub returns-in-Ok-clause-legal : goal.returns-in-Ok-clause-legal
returns-in-Ok-clause-legal c = λ legal.
    subst IsLegal (sym c.in-Ok.ensures.after)
    (step c.args.self.now c.args.day c.args.caller.now c.args.request.now c.date-date.ensures.range c.prove_in_range.ensures legal)
