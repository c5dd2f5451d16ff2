use Rattle.bag_text.proofs.InfoLemmas.{info_said, info_fault}
use Rattle.bag_text.proofs.laws.bag_info.Goals as goal

pub returns-clause-said : goal.returns-clause-said
returns-clause-said c = info_said

pub returns-clause-first : goal.returns-clause-first
returns-clause-first c = info_fault
