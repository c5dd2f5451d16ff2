use Rattle.bag_text.proofs.PathCauseLemmas.{never_listed}
use Rattle.bag_text.proofs.laws.coded_names.Goals as goal

pub returns : goal.returns
returns c = never_listed
