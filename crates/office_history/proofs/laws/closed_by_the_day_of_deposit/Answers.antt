use Rattle.office_history.proofs.Lemmas.{deposits, all_numbered, WasClosed, closed_deposits}
use Rattle.office_history.proofs.laws.closed_by_the_day_of_deposit.Goals as goal

pub returns : goal.returns
returns c = λ h legal n found e. all_numbered WasClosed (deposits h) n found (closed_deposits h legal) e
