use Rattle.office_core.proofs.DueLemmas.{due_of_is, is_due_of}
use Rattle.office_core.proofs.laws.one_due.Goals as goal

pub returns-clause-only : goal.returns-clause-only
returns-clause-only c = due_of_is

pub returns-clause-computed : goal.returns-clause-computed
returns-clause-computed c = is_due_of
