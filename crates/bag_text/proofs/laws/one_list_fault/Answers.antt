use Rattle.bag_text.proofs.ListLemmas.{list_fault_law, list_bag_law}
use Rattle.bag_text.proofs.laws.one_list_fault.Goals as goal

pub returns-clause-first : goal.returns-clause-first
returns-clause-first c = list_fault_law

pub returns-clause-none : goal.returns-clause-none
returns-clause-none c = list_bag_law
