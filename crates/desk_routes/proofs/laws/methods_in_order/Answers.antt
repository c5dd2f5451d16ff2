use Rattle.desk_routes.proofs.TableLemmas.{methods-sorted}
use Rattle.desk_routes.proofs.laws.methods_in_order.Goals as goal

pub returns : goal.returns
returns c = methods-sorted
