use Rattle.desk_listening.proofs.Common.{◌≡◌, ◌-◌, ◌≤◌, ℕ, List, length, Consumes, device_of, failures_of}
use Rattle.desk_listening.proofs.draining.drain.Given as goal

-- what came is counted, and no call has failed
abbrev pub invariant-drops : goal.invariant-drops
invariant-drops g l = record {
  given : (given : List ℕ) × Consumes (g.R.Read.remaining (device_of l.initial.reader)) (g.R.Read.remaining (device_of l.reader)) given × (length given ≡ l.dropped);
  few : l.dropped ≤ l.most;
  failures : failures_of l.reader ≡ failures_of l.initial.reader;
}

abbrev pub decreases-drops : goal.decreases-drops
decreases-drops g l = l.most - l.dropped
