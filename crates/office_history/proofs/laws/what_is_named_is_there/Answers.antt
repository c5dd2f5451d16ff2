use Rattle.office_history.proofs.Lemmas.{deposits, holds, all_numbered, HasPlace, placed_deposits, HasTarget, placed_holds}
use Rattle.office_history.proofs.laws.what_is_named_is_there.Goals as goal

pub returns-clause-deposits : goal.returns-clause-deposits
returns-clause-deposits c = λ h legal n found e. all_numbered (HasPlace h) (deposits h) n found (placed_deposits h legal) e

pub returns-clause-holds : goal.returns-clause-holds
returns-clause-holds c = λ h legal k found e. all_numbered (HasTarget h) (holds h) k found (placed_holds h legal) e
