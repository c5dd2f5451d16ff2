use Rattle.desk_hearing.proofs.OneHearing.{one_hearing}
use Rattle.desk_hearing.proofs.laws.one_hearing.Goals as goal

pub returns : goal.returns
returns c = one_hearing
