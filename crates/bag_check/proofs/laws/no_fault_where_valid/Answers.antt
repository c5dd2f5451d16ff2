use Rattle.bag_check.proofs.ValidLemmas.{none_stands}
use Rattle.bag_check.proofs.JudgeLaws.{valid_exactly}
use Rattle.bag_check.proofs.laws.no_fault_where_valid.Goals as goal

pub returns-clause-none : goal.returns-clause-none
returns-clause-none c = λ files v fault is valid stands. none_stands files is v valid fault stands

pub returns-clause-exactly : goal.returns-clause-exactly
returns-clause-exactly c = λ files is. valid_exactly files is
