use Rattle.bag_check.proofs.Common.{◌≡◌, map, drop, files_of, manifests_in, named_seen, fronted}
use Rattle.bag_check.proofs.listed.find_manifests.Given as goal

abbrev pub invariant-loop-file : goal.invariant-loop-file
invariant-loop-file l = fronted (map named_seen l.found.items) (manifests_in (files_of (drop l.file-index l.files))) ≡ manifests_in (files_of l.files)
