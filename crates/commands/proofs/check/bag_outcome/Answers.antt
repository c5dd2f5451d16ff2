use Rattle.commands.proofs.Lemmas.{says_valid, says_invalid}
use Rattle.commands.proofs.check.bag_outcome.Goals as goal

pub returns-in-Ok : goal.returns-in-Ok
returns-in-Ok c = says_valid c.args.bag.now c.in-Ok.report c.valid_outcome.result c.in-Ok.ensures.valid.0 c.in-Ok.ensures.valid.1 c.valid_outcome.ensures

pub returns-in-Err : goal.returns-in-Err
returns-in-Err c = says_invalid c.args.bag.now c.in-Err.fault c.invalid_outcome.result c.in-Err.ensures.refused c.invalid_outcome.ensures.memory c.invalid_outcome.ensures.says
