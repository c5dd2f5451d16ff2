use Rattle.office_history.proofs.Lemmas.{accessions_apart}
use Rattle.office_history.proofs.laws.accessions_are_used_once.Goals as goal

pub returns : goal.returns
returns c = accessions_apart
