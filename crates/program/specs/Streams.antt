-- What is seen of the three standard streams, before a run and after it.
use Rattle.std.specs.Prelude.{ℕ, List, Option}
use Rattle.std.specs.declared.io.Read.{Ghosts as Reads}
use Rattle.std.specs.declared.io.Write.{Ghosts as Writes}
use Rattle.desk_devices.specs.Devices.{device_of, failures_of}
use Rattle.desk_devices.specs.declared.counted.Counted.{Counted}
use Rattle.commands.specs.declared.ending.Ending.{Ending}
use Rattle.office_commands.specs.Traffic.{LoggedTraffic}
use Rattle.program.specs.declared.standard.Streams.{Streams}

-- a stream: its device, and the bytes that an input still has or that an output holds, where they are known
pub record Stream (D : Type 0) : Type 0 where
  pub device : D
  pub bytes : Option (List ℕ)

abbrev pub reader_seen : {R : Type 0} → Reads R → Counted R → Stream (Counted R)
reader_seen r reader = record { device = reader; bytes = r.remaining (device_of reader) }

abbrev pub counted_seen : {W : Type 0} → Writes W → Counted W → Stream (Counted W)
counted_seen w writer = record { device = writer; bytes = w.contents (device_of writer) }

abbrev pub writer_seen : {W : Type 0} → Writes W → W → Stream W
writer_seen w writer = record { device = writer; bytes = w.contents writer }

-- the three
pub record Seen (R O E : Type 0) : Type 0 where
  pub input : Stream R
  pub output : Stream O
  pub error : Stream E

abbrev pub seen_of : {R O E : Type 0} → Reads R → Writes O → Writes E → Streams R O E → Seen (Counted R) (Counted O) (Counted E)
seen_of r o e streams =
    record { input = reader_seen r streams.input; output = counted_seen o streams.output; error = counted_seen e streams.error }

-- the bytes of the two beside an office, and standard error as its log
abbrev pub traffic : {R O E : Type 0} → Seen R O (Counted E) → LoggedTraffic
traffic seen = record {
  streams = record { input = seen.input.bytes; output = seen.output.bytes };
  log = record { held = seen.error.bytes; failures = failures_of seen.error.device };
}

-- a run: what is seen of the three before it and after it, and how it ends
pub record Course (R O E : Type 0) : Type 0 where
  pub was : Seen R O E
  pub now : Seen R O E
  pub ending : Ending

-- with these streams before it, and these after it
abbrev pub course_of : {R O E : Type 0} → Reads R → Writes O → Writes E → Streams R O E × Streams R O E → Ending → Course (Counted R) (Counted O) (Counted E)
course_of r o e streams ending = record { was = seen_of r o e streams.0; now = seen_of r o e streams.1; ending = ending }
