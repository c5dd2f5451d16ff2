use Rattle.std.proofs.Common.{◌≡◌, ◌-◌, ◌≤◌, length, take}
use Rattle.std.specs.Io.KnownBytes.{Appends}
use Rattle.desk_devices.specs.Devices.{device_of, failures_of}
use Rattle.desk_devices.proofs.whole.write_whole.Given as goal

abbrev pub invariant-writes : goal.invariant-writes
invariant-writes g l = record {
  within : l.at ≤ length l.bytes;
  written : Appends (g.W.Write.contents (device_of l.initial.writer)) (g.W.Write.contents (device_of l.writer)) (take l.at l.bytes);
  failures : failures_of l.writer ≡ failures_of l.initial.writer;
}

abbrev pub decreases-writes : goal.decreases-writes
decreases-writes g l = length l.bytes - l.at
