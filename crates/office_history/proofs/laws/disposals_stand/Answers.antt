use Rattle.office_history.proofs.Lemmas.{Destroyed, changes_stand}
use Rattle.office_history.proofs.laws.disposals_stand.Goals as goal

pub returns : goal.returns
returns c = λ h legal before rest day n e. (changes_stand h legal before rest (Destroyed day n) e).1
