use Rattle.bag_check.proofs.CountsLemmas.{counts_is, counts_again}
use Rattle.bag_check.proofs.laws.oxum_counts.Goals as goal

pub returns : goal.returns
returns c = λ value bytes files. (counts_is value bytes files, counts_again value bytes files)
