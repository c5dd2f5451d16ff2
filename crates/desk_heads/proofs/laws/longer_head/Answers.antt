use Rattle.desk_heads.proofs.EndLemmas.{head_at_more}
use Rattle.desk_heads.proofs.laws.longer_head.Goals as goal

pub returns : goal.returns
returns c = head_at_more
