use Rattle.office_refines.proofs.PolicyTold.{install_told}
use Rattle.office_refines.proofs.laws.installs_are_exact.Goals as goal

pub returns : goal.returns
returns c = install_told
