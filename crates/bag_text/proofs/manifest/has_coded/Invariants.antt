use Rattle.bag_text.proofs.Common.{◌≡◌, length, has_coded}
use Rattle.bag_text.proofs.manifest.has_coded.Given as goal

abbrev pub invariant-loop-rest : goal.invariant-loop-rest
invariant-loop-rest l = has_coded l.version l.rest ≡ has_coded l.version l.text

abbrev pub decreases-loop-rest : goal.decreases-loop-rest
decreases-loop-rest l = length l.rest
