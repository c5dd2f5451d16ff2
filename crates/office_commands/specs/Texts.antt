-- What the faults of the desk come to.
use Rattle.std.specs.Prelude.{Some}
use Rattle.desk_serving.specs.declared.serving.DeskFault.{DeskFault}
use Rattle.desk_serving.specs.declared.serving.DeskFault.TheVariants as desk
use Rattle.http_desk.specs.declared.replaying.ReplayStop.{ReplayStop}
use Rattle.http_desk.specs.declared.replaying.ReplayStop.TheVariants as stops
use Rattle.office_stores.specs.Texts.{fails}
use Rattle.office_stores.specs.declared.fault.Cause.TheVariants.{Input, Output}
use Rattle.office_stores.specs.declared.fault.CommandFault.{CommandFault}
use Rattle.office_stores.specs.declared.fault.CommandFault.TheVariants.{BadRecord, Failed}
use Rattle.office_stores.specs.declared.fault.StoreFault.TheVariants.{Device, Memory}

abbrev pub desk_failure : DeskFault → CommandFault
desk_failure desk.Read = Failed Device (Some Input)
desk_failure (desk.Write done) = Failed Device (Some Output)
desk_failure (desk.Memory done) = fails Memory

abbrev pub replay_failure : ReplayStop → CommandFault
replay_failure (stops.BadRecord index) = BadRecord index
replay_failure stops.Read = Failed Device (Some Input)
replay_failure stops.Write = Failed Device (Some Output)
replay_failure stops.Memory = fails Memory
