-- The faults of the crates below, as this one answers them: Depot's own, as they are.
use Rattle.desk_devices.specs.declared.filling.FillFault.{FillFault}
use Rattle.desk_devices.specs.declared.filling.FillFault.TheVariants as fills
use Rattle.desk_heads.specs.declared.reading.HeadFault.{HeadFault}
use Rattle.desk_heads.specs.declared.reading.HeadFault.TheVariants as heads
use Rattle.desk_forms.specs.declared.body.BodyFault.{BodyFault}
use Rattle.desk_forms.specs.declared.body.BodyFault.TheVariants as bodies
use Rattle.desk_forms.specs.declared.query.QueryFault.{QueryFault}
use Rattle.desk_forms.specs.declared.query.QueryFault.TheVariants as queries
use Rattle.desk_routes.specs.declared.refusal.DeskRefusal.TheVariants.{TooLarge, Truncated, BadQuery, BadBody}
use Rattle.desk_hearing.specs.declared.fault.HeardFault.{HeardFault}
use Rattle.desk_hearing.specs.declared.fault.HeardFault.TheVariants.{Refused, Read, Memory}
use Rattle.desk_hearing.specs.declared.fault.JudgingFault.{JudgingFault}
use Rattle.desk_hearing.specs.declared.fault.JudgingFault.TheVariants as judging

abbrev pub fault_of_query : QueryFault → JudgingFault
fault_of_query queries.BadQuery = judging.Refused BadQuery
fault_of_query queries.Memory = judging.Memory

abbrev pub fault_of_body : BodyFault → JudgingFault
fault_of_body bodies.BadBody = judging.Refused BadBody
fault_of_body bodies.Memory = judging.Memory

abbrev pub fault_of_judging : JudgingFault → HeardFault
fault_of_judging (judging.Refused refusal) = Refused refusal
fault_of_judging judging.Memory = Memory

abbrev pub fault_of_head : HeadFault → HeardFault
fault_of_head heads.TooLarge = Refused TooLarge
fault_of_head heads.Truncated = Refused Truncated
fault_of_head heads.Read = Read
fault_of_head heads.Memory = Memory

abbrev pub fault_of_fill : FillFault → HeardFault
fault_of_fill fills.Truncated = Refused Truncated
fault_of_fill fills.Read = Read
fault_of_fill fills.Memory = Memory
