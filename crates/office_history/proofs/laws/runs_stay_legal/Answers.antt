use Rattle.office_history.proofs.Lemmas.{run_legal}
use Rattle.office_history.proofs.laws.runs_stay_legal.Goals as goal

pub returns : goal.returns
returns c = λ h next items given ranged legal r. run_legal items given h next ranged legal r
