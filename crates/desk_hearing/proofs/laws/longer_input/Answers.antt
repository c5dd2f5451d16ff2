use Rattle.desk_hearing.proofs.HearingLemmas.{hears_longer}
use Rattle.desk_hearing.proofs.laws.longer_input.Goals as goal

pub returns : goal.returns
returns c = hears_longer
