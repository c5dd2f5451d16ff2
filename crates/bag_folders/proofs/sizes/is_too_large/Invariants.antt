use Rattle.bag_folders.proofs.Common.{◌≡◌, ◌≤◌, take, sum_by, max_form}
use Rattle.bag_folders.proofs.sizes.is_too_large.Given as goal

abbrev pub invariant-loop-file : goal.invariant-loop-file
invariant-loop-file l = (l.total ≡ sum_by (λ file. file.size) (take l.file-index l.files)) × (l.total ≤ max_form)
