use Rattle.bag_check.proofs.JudgeLaws.{judged_valid, judged_fault, valid_judged, fault_judged}
use Rattle.bag_check.proofs.laws.judged_bags.Goals as goal

pub returns-clause-report : goal.returns-clause-report
returns-clause-report c = λ files report is e. judged_valid files is report e

pub returns-clause-valid : goal.returns-clause-valid
returns-clause-valid c = λ files v is valid. valid_judged files is v valid

pub returns-clause-first : goal.returns-clause-first
returns-clause-first c = λ files fault is. (judged_fault files is fault, fault_judged files is fault)
