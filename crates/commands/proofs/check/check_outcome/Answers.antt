use Rattle.commands.proofs.Lemmas.{too_long_is_said, valid_is_said, invalid_is_said, unreadable_is_said}
use Rattle.commands.proofs.check.check_outcome.Goals as goal

pub returns-clause-valid : goal.returns-clause-valid
returns-clause-valid c = valid_is_said c.args.bytes.now c.bytes_outcome.result c.bytes_outcome.ensures

pub returns-clause-invalid : goal.returns-clause-invalid
returns-clause-invalid c = invalid_is_said c.args.bytes.now c.bytes_outcome.result c.bytes_outcome.ensures

pub returns-clause-unreadable : goal.returns-clause-unreadable
returns-clause-unreadable c = unreadable_is_said c.args.bytes.now c.bytes_outcome.result c.bytes_outcome.ensures

pub returns-clause-too_long : goal.returns-clause-too_long
returns-clause-too_long c = too_long_is_said c.args.bytes.now c.bytes_outcome.result c.bytes_outcome.ensures
