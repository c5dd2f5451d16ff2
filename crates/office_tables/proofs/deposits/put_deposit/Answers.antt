use Rattle.office_tables.proofs.Lemmas.{stored_once}
use Rattle.office_tables.proofs.deposits.put_deposit.Goals as goal

pub returns-clause-once : goal.returns-clause-once
returns-clause-once g c clean office kept = stored_once (c.in_ok-add_deposit.ensures.contents clean office) kept
