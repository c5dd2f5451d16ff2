use Rattle.office_commands.proofs.Common.{Done}
use Rattle.office_commands.proofs.ReplayingLemmas.{ended, stopped}
use Rattle.office_commands.proofs.working.replay_office.Goals as goal

pub returns-in-Ok-clause-replays : goal.returns-in-Ok-clause-replays
returns-in-Ok-clause-replays g c =
    let it = c.in-Ok.ensures.replayed in
    ended g.S.Store c.args.office.now c.replay.new.office _ _ _ _ c.flush.result _ it.0 c.flush.ensures.fault it.1 it.2 c.flush.ensures.same

pub returns-in-Err-clause-replays : goal.returns-in-Err-clause-replays
returns-in-Err-clause-replays g c = stopped g.S.Store c.args.office.now c.replay.new.office _ _ _ _ Done c.in-Err.fault c.replay_failure.result c.replay_failure.ensures c.in-Err.ensures.replayed
