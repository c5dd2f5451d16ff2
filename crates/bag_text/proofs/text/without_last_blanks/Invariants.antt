use Rattle.bag_text.proofs.Common.{◌≡◌, length, drop_last_blanks}
use Rattle.bag_text.proofs.text.without_last_blanks.Given as goal

abbrev pub invariant-loop-rest : goal.invariant-loop-rest
invariant-loop-rest l = drop_last_blanks l.rest ≡ drop_last_blanks l.text

abbrev pub decreases-loop-rest : goal.decreases-loop-rest
decreases-loop-rest l = length l.rest
