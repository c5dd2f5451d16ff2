use Rattle.office_history.proofs.VerdictLemmas.{asked_verdict, disposal_verdict}
use Rattle.office_history.proofs.laws.verdicts_decide.Goals as goal

pub returns-clause-asked : goal.returns-clause-asked
returns-clause-asked c = asked_verdict

pub returns-clause-disposal : goal.returns-clause-disposal
returns-clause-disposal c = disposal_verdict
