use Rattle.bag_check.proofs.Common.{◌≡◌, map, drop, listings_of, named_seen, listed_seen, fronted}
use Rattle.bag_check.proofs.listed.read_manifests.Given as goal

abbrev pub invariant-loop-named : goal.invariant-loop-named
invariant-loop-named l = fronted (map listed_seen l.read.items) (listings_of l.version (map named_seen (drop l.named-index l.found))) ≡ listings_of l.version (map named_seen l.found)
