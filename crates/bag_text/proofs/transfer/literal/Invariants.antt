use Rattle.bag_text.proofs.Common.{◌≡◌, drop, literal_at}
use Rattle.bag_text.proofs.transfer.literal.Given as goal

abbrev pub invariant-loop-byte : goal.invariant-loop-byte
invariant-loop-byte l = literal_at (drop l.byte-index l.wanted) l.rest ≡ literal_at l.wanted l.text
