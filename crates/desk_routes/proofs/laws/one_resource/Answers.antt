use Rattle.desk_routes.proofs.SpellingLemmas.{one-spelled}
use Rattle.desk_routes.proofs.laws.one_resource.Goals as goal

pub returns : goal.returns
returns c = one-spelled
