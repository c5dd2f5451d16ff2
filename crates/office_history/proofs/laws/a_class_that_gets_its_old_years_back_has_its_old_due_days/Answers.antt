use Rattle.office_history.proofs.UndoneLemmas.{days_back, rows_back}
use Rattle.office_history.proofs.laws.a_class_that_gets_its_old_years_back_has_its_old_due_days.Goals as goal

pub returns-clause-days : goal.returns-clause-days
returns-clause-days c = days_back

pub returns-clause-rows : goal.returns-clause-rows
returns-clause-rows c = rows_back
