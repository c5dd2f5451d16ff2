use Rattle.office_core.proofs.DayTexts.{read_exactly}
use Rattle.office_core.proofs.day.Day.read.Goals as goal

pub returns-clause-exact : goal.returns-clause-exact
returns-clause-exact c = read_exactly c.args.text.now c.read_day.result c.read_day.ensures.written c.read_day.ensures.only
