use Rattle.desk_routes.proofs.TargetLemmas.{parts-split, split-of-parts}
use Rattle.desk_routes.proofs.laws.one_split.Goals as goal

pub returns : goal.returns
returns c = λ target path query. (split-of-parts target path query, parts-split target path query)
