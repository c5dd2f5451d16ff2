use Rattle.bag_check.proofs.Common.{◌≡◌, map, take, sha256}
use Rattle.bag_check.proofs.digests.digests_of.Given as goal

abbrev pub invariant-loop-file : goal.invariant-loop-file
invariant-loop-file l = l.digests.items ≡ map (λ file. sha256 file.1.now) (take l.file-index l.files)
