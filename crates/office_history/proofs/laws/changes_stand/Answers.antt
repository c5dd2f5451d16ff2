use Rattle.office_history.proofs.Lemmas.{ReleasedHold, changes_stand}
use Rattle.office_history.proofs.laws.changes_stand.Goals as goal

pub returns-clause-changes : goal.returns-clause-changes
returns-clause-changes c = changes_stand

pub returns-clause-releases : goal.returns-clause-releases
returns-clause-releases c = λ h legal before rest day k e. (changes_stand h legal before rest (ReleasedHold day k) e).1
