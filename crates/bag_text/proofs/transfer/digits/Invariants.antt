use Rattle.bag_text.proofs.Common.{◌≡◌, ◌≤◌, length, digits_at}
use Rattle.bag_text.proofs.transfer.digits.Given as goal

abbrev pub invariant-loop-rest : goal.invariant-loop-rest
invariant-loop-rest l = (l.number ≤ l.most) × (digits_at l.stop l.most l.number l.rest ≡ digits_at l.stop l.most l.first l.text)

abbrev pub decreases-loop-rest : goal.decreases-loop-rest
decreases-loop-rest l = length l.rest
