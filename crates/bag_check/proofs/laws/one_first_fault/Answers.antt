use Rattle.bag_check.proofs.FaultLemmas.{one_first_fault}
use Rattle.bag_check.proofs.laws.one_first_fault.Goals as goal

pub returns : goal.returns
returns c = λ files a b is first second. one_first_fault files is a b first second
