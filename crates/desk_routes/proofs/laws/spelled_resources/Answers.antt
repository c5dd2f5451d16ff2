use Rattle.desk_routes.proofs.SpellingLemmas.{reading-spelled, spelling-read}
use Rattle.desk_routes.proofs.laws.spelled_resources.Goals as goal

pub returns : goal.returns
returns c = λ path resource. (reading-spelled path resource, spelling-read path resource)
