use Rattle.office_by_rows.proofs.Common.{refl, epoch_day, day_number}
use Rattle.office_by_rows.proofs.Days.{day_back, day_is}
use Rattle.office_by_rows.proofs.laws.days_are_numbered.Goals as goal

pub returns-clause-back : goal.returns-clause-back
returns-clause-back c = λ day is. day_back (epoch_day day) day refl (day_number day is)

pub returns-clause-number : goal.returns-clause-number
returns-clause-number c = day_is
