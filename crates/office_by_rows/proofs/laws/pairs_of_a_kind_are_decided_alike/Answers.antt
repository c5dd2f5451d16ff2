use Rattle.office_by_rows.proofs.DecidedAlike.{decided_alike}
use Rattle.office_by_rows.proofs.laws.pairs_of_a_kind_are_decided_alike.Goals as goal

pub returns : goal.returns
returns c = decided_alike
