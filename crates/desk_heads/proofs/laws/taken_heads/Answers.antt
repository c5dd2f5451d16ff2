use Rattle.desk_heads.proofs.StepLemmas.{taken_says, says_taken}
use Rattle.desk_heads.proofs.laws.taken_heads.Goals as goal

pub returns : goal.returns
returns c = λ front contents. (taken_says front contents, λ h. says_taken front contents h.0 h.1)
