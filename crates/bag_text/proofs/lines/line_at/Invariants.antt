use Rattle.bag_text.proofs.Common.{◌≡◌, ◌-◌, ◌≤◌, length, slice_get, lines}
use Rattle.bag_text.proofs.lines.line_at.Given as goal

abbrev pub invariant-loop-rest : goal.invariant-loop-rest
invariant-loop-rest l = (1 ≤ l.number) × (slice_get (lines l.rest) l.before ≡ slice_get (lines l.text) (l.number - 1))

abbrev pub decreases-loop-rest : goal.decreases-loop-rest
decreases-loop-rest l = length l.rest
