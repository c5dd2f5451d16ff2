use Rattle.bag_text.proofs.Common.{◌≡◌, ◌++◌, length, decode}
use Rattle.bag_text.proofs.manifest.decode.Given as goal

abbrev pub invariant-loop-byte : goal.invariant-loop-byte
invariant-loop-byte l = l.path.items ++ decode l.version l.rest ≡ decode l.version l.spelled

abbrev pub decreases-loop-byte : goal.decreases-loop-byte
decreases-loop-byte l = length l.rest
