use Rattle.desk_heads.proofs.StepLemmas.{one_judgement}
use Rattle.desk_heads.proofs.laws.one_judgement.Goals as goal

pub returns : goal.returns
returns c = one_judgement
