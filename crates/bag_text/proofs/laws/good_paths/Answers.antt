use Rattle.bag_text.proofs.PathLemmas.{good_tested, good_unless}
use Rattle.bag_text.proofs.laws.good_paths.Goals as goal

pub returns-clause-tested : goal.returns-clause-tested
returns-clause-tested c = good_tested

pub returns-clause-unless : goal.returns-clause-unless
returns-clause-unless c = good_unless
