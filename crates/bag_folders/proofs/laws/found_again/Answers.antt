use Rattle.bag_folders.proofs.AgainLemmas.{found_again}
use Rattle.bag_folders.proofs.laws.found_again.Goals as goal

pub returns : goal.returns
returns c = λ files found listed bag again put. found_again files found listed bag again put
