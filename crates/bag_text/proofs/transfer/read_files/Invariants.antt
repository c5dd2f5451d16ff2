use Rattle.bag_text.proofs.Common.{◌≡◌, [], files_of, files_at, max_files}
use Rattle.bag_text.proofs.ResultLemmas.{fronted}
use Rattle.bag_text.proofs.transfer.read_files.Given as goal

abbrev pub invariant-loop-files : goal.invariant-loop-files
invariant-loop-files l = fronted (files_of l.files.items) (files_at l.whole l.left l.before l.rest) ≡ files_at l.whole max_files [] l.body

abbrev pub decreases-loop-files : goal.decreases-loop-files
decreases-loop-files l = l.left
