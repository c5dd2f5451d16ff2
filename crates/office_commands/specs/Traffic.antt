-- What is known of the streams beside an office, before a command and after it.
use Rattle.std.specs.Prelude.{◌≡◌, ℕ, List, Option, Result}
use Rattle.std.specs.Io.KnownBytes.{Appends, Consumes}
use Rattle.std.specs.declared.io.Read.{Ghosts as Reads}
use Rattle.std.specs.declared.io.Write.{Ghosts as Writes}
use Rattle.desk_devices.specs.Devices.{device_of}
use Rattle.desk_devices.specs.declared.counted.Counted.{Counted}
use Rattle.desk_log.specs.Logging.{Log, log_of}
use Rattle.streams.specs.Writing.{IsCutShort}
use Rattle.office_stores.specs.declared.fault.CommandFault.{CommandFault}

pub record Traffic : Type 0 where
  -- what the input still has
  pub input : Option (List ℕ)
  -- what the output holds
  pub output : Option (List ℕ)

abbrev pub traffic_of : {R W : Type 0} → Reads R → Writes W → Counted R → Counted W → Traffic
traffic_of r w input output = record { input = r.remaining (device_of input); output = w.contents (device_of output) }

-- the input gives these bytes
abbrev pub InputGives : List ℕ → Traffic → Traffic → Type 0
InputGives bytes was now = Consumes was.input now.input bytes

-- the text is written after what the output held
abbrev pub WritesText : List ℕ → Traffic → Traffic → Type 0
WritesText text was now = Appends was.output now.output text

-- a beginning of it is: nothing, a part or all of it
abbrev pub Begins : List ℕ → Traffic → Traffic → Type 0
Begins text was now = IsCutShort text was.output now.output

-- what a desk that listens says: what the output holds, and the log
pub record Said : Type 0 where
  pub output : Option (List ℕ)
  pub log : Log

abbrev pub said_of : {W E : Type 0} → Writes W → Writes E → Counted W → Counted E → Said
said_of w e output log = record { output = w.contents (device_of output); log = log_of e log }

-- the streams and the log
pub record LoggedTraffic : Type 0 where
  pub streams : Traffic
  pub log : Log

abbrev pub logged_traffic : {R W E : Type 0} → Reads R → Writes W → Writes E → Counted R → Counted W → Counted E → LoggedTraffic
logged_traffic r w e input output log = record { streams = traffic_of r w input output; log = log_of e log }

abbrev pub said_in : LoggedTraffic → Said
said_in traffic = record { output = traffic.streams.output; log = traffic.log }

-- what came of a task or of a command: its result, and the traffic before it and after it
pub record Upshot (T : Type 0) : Type 0 where
  pub result : Result T CommandFault
  pub was : LoggedTraffic
  pub now : LoggedTraffic

-- with this input, this output and this log before it, and these after it
abbrev pub upshot_of : {R W E T : Type 0} → Reads R → Writes W → Writes E → Result T CommandFault → Counted R × Counted W × Counted E → Counted R × Counted W × Counted E → Upshot T
upshot_of r w e result old new =
    record { result = result; was = logged_traffic r w e old.0 old.1 old.2; now = logged_traffic r w e new.0 new.1 new.2 }

-- the log is as it was
abbrev pub IsUnlogged : {T : Type 0} → Upshot T → Type 0
IsUnlogged upshot = upshot.now.log ≡ upshot.was.log
