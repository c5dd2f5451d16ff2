use Rattle.std.proofs.Common.{◌≡◌, ◌-◌, ◌++◌, List, ℕ, length}
use Rattle.std.specs.Io.KnownBytes.{Consumes}
use Rattle.desk_devices.specs.Devices.{device_of, failures_of}
use Rattle.desk_devices.proofs.filling.fill.Given as goal

abbrev pub invariant-fills : goal.invariant-fills
invariant-fills g l = record {
  given : (more : List ℕ) × (l.bytes.items ≡ l.initial.bytes.items ++ more) × Consumes (g.R.Read.remaining (device_of l.initial.reader)) (g.R.Read.remaining (device_of l.reader)) more;
  failures : failures_of l.reader ≡ failures_of l.initial.reader;
}

abbrev pub decreases-fills : goal.decreases-fills
decreases-fills g l = l.want - length l.bytes.items
