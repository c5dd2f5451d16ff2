use Rattle.office_refines.proofs.RulesTold.{rule_told}
use Rattle.office_refines.proofs.laws.matching_rules_decide.Goals as goal

pub returns : goal.returns
returns c = rule_told
