use Rattle.commands.proofs.Lemmas.{arith, says_of_bag, says_unreadable}
use Rattle.commands.proofs.check.bytes_outcome.Goals as goal

pub returns-in-Ok : goal.returns-in-Ok
returns-in-Ok c = says_of_bag c.args.bytes.now c.in-Ok.bag c.bag_outcome.result (omega (arith, c.if-bytes-gt-MAX_FORM.false)) c.in-Ok.ensures.found.0 c.in-Ok.ensures.found.1 c.bag_outcome.ensures

pub returns-in-Err : goal.returns-in-Err
returns-in-Err c = says_unreadable c.args.bytes.now c.in-Err.fault c.unreadable_outcome.result (omega (arith, c.if-bytes-gt-MAX_FORM.false)) c.in-Err.ensures.fault c.unreadable_outcome.ensures.memory c.unreadable_outcome.ensures.says
