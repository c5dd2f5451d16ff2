use Rattle.office_tables.proofs.OrderLemmas.{in_order}
use Rattle.office_tables.proofs.laws.rows_in_order.Goals as goal

pub returns : goal.returns
returns c = in_order
