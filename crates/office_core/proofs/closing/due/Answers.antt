use Rattle.office_core.proofs.Common.{sym}
use Rattle.office_core.proofs.DueLemmas.{due_of_is}
use Rattle.office_core.proofs.closing.due.Goals as goal

pub returns-clause-exact : goal.returns-clause-exact
returns-clause-exact c = sym (due_of_is c.args.closing c.args.years c.due_on.result c.due_on.ensures)
