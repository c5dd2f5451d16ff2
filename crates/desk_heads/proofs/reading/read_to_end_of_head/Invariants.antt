use Rattle.desk_heads.proofs.Common.{◌≡◌, ◌-◌, length, Consumes, max_head}
use Rattle.desk_devices.specs.Devices.{device_of, failures_of}
use Rattle.desk_heads.proofs.reading.read_to_end_of_head.Given as goal

-- what came is in bytes, and no call has failed
abbrev pub invariant-reads : goal.invariant-reads
invariant-reads g l = record {
  given : Consumes (g.R.Read.remaining (device_of l.initial.reader)) (g.R.Read.remaining (device_of l.reader)) l.bytes.items;
  failures : failures_of l.reader ≡ failures_of l.initial.reader;
}

abbrev pub decreases-reads : goal.decreases-reads
decreases-reads g l = max_head - length l.bytes.items
