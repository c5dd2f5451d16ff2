use Rattle.office_commands.proofs.Common.{Done}
use Rattle.desk_devices.specs.Devices.{device_of}
use Rattle.office_commands.proofs.AskingLemmas.{asks, handed_on, in_part, told_as}
use Rattle.office_commands.proofs.working.ask_office.Goals as goal

pub returns-in-Ok-clause-asks : goal.returns-in-Ok-clause-asks
returns-in-Ok-clause-asks g c =
    let it = c.in-Ok.ensures.answered in
    handed_on g.S.Store c.args.day c.args.office.now c.serve_one.new.office _ _ c.flush.result _ _ _ c.flush.ensures.fault
    (asks g.S.Store c.args.day c.args.office.now c.serve_one.new.office _ _ _ _ it.0 it.1 it.2 it.3 it.4 it.5 c.in-Ok.ensures.whole) c.flush.ensures.same

pub returns-in-Err-clause-asks : goal.returns-in-Err-clause-asks
returns-in-Err-clause-asks g c =
    told_as g.S.Store c.args.day c.args.office.now c.serve_one.new.office _ _ Done _ _ c.desk_failure.result _ c.desk_failure.ensures
    (in_part g.S.Store c.args.day c.args.office.now c.serve_one.new.office _ _ Done c.args.out.now c.serve_one.new.writer (λ w. g.O.Write.contents (device_of w)) c.serve_one.result c.in-Err.fault c.in-Err.is
    (λ e. let it = c.serve_one.ensures.read e in (it.0, it.1, it.2, it.4, it.5)) c.serve_one.ensures.memory
    (λ e. let it = c.serve_one.ensures.memory_done e in (it.0, it.1, it.2, it.3, it.4)) c.serve_one.ensures.whole_memory_done
    (λ done e. let it = c.serve_one.ensures.write done e in (it.0, it.1, it.2, it.3, it.4, it.6)) c.serve_one.ensures.whole_write)
