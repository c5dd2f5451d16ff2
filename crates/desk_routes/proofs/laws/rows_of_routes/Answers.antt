use Rattle.desk_routes.proofs.TableLemmas.{row-only, row-at}
use Rattle.desk_routes.proofs.laws.rows_of_routes.Goals as goal

pub returns : goal.returns
returns c = λ method resource route. (row-only method resource route, row-at method resource route)
