use Rattle.office_tables.proofs.OrderLemmas.{live_holds_rise}
use Rattle.office_tables.proofs.laws.live_holds_in_order.Goals as goal

pub returns : goal.returns
returns c = live_holds_rise
