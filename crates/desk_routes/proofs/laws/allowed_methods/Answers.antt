use Rattle.desk_routes.proofs.TableLemmas.{allowed-route, route-allowed}
use Rattle.desk_routes.proofs.laws.allowed_methods.Goals as goal

pub returns : goal.returns
returns c = λ method resource. (allowed-route method resource, λ found. route-allowed method resource found.0 found.1)
