use Rattle.desk_heads.proofs.StepLemmas.{refused_first, first_refused}
use Rattle.desk_heads.proofs.laws.first_refusal.Goals as goal

pub returns : goal.returns
returns c = λ front refusal. (refused_first front refusal, first_refused front refusal)
