use Rattle.bag_folders.proofs.Lemmas.{of_file, of_none}
use Rattle.bag_folders.proofs.unpacking.unpack.Goals as goal

pub returns-in-Ok-clause-judged : goal.returns-in-Ok-clause-judged
returns-in-Ok-clause-judged g c = of_file _ c.in-Ok.form c.unpack_from.result c.unpack_from.ensures.judged

pub returns-in-Err-clause-judged : goal.returns-in-Err-clause-judged
returns-in-Err-clause-judged g c = rw c.into.ensures (of_none _ c.failed_at.result)
