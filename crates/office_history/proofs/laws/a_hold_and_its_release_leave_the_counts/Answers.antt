use Rattle.office_history.proofs.UndoneLemmas.{holds_undone, rows_undone}
use Rattle.office_history.proofs.laws.a_hold_and_its_release_leave_the_counts.Goals as goal

pub returns-clause-holds : goal.returns-clause-holds
returns-clause-holds c = holds_undone

pub returns-clause-rows : goal.returns-clause-rows
returns-clause-rows c = rows_undone
