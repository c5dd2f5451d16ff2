use Rattle.office_core.proofs.Lemmas.{decision_of, denied_role, denied_verdict}
use Rattle.office_core.proofs.laws.no_allow_rule.Goals as goal

pub returns : goal.returns
returns c = λ rules asked none facts day is. denied_verdict facts day (decision_of rules asked) is (λ d e. denied_role rules asked d none e)
