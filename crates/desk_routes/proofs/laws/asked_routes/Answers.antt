use Rattle.desk_routes.proofs.TableLemmas.{asked-found, found-asked, nothing-named, named-nothing, method-refused, refused-method}
use Rattle.desk_routes.proofs.laws.asked_routes.Goals as goal

pub returns-clause-asked : goal.returns-clause-asked
returns-clause-asked c = λ method path route. (found-asked method path route, asked-found method path route)

pub returns-clause-nothing : goal.returns-clause-nothing
returns-clause-nothing c = λ method path. (nothing-named method path, named-nothing method path)

pub returns-clause-refused : goal.returns-clause-refused
returns-clause-refused c = λ method path pattern. (method-refused method path pattern, refused-method method path pattern)
