use Rattle.office_history.proofs.Lemmas.{disposable_is_listed, listed_is_disposable}
use Rattle.office_history.proofs.laws.what_may_be_destroyed_is_on_the_due_list.Goals as goal

pub returns-clause-listed : goal.returns-clause-listed
returns-clause-listed c = disposable_is_listed

pub returns-clause-only : goal.returns-clause-only
returns-clause-only c = listed_is_disposable
