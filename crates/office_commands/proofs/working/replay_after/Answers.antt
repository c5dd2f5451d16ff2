use Rattle.office_commands.proofs.WorkLemmas.{after_install, not_installed}
use Rattle.office_commands.proofs.working.replay_after.Goals as goal

pub returns-in-Ok-clause-replays : goal.returns-in-Ok-clause-replays
returns-in-Ok-clause-replays g c =
    after_install g.S.Store c.install_policy.result c.in-Ok.field-0 c.replay_office-in-Ok.result c.args.policy c.in-Some.policy c.args.office.now c.install_policy.new.office c.replay_office-in-Ok.new.office _ _
    c.in-Some.is c.in-Ok.is c.install_policy.ensures.done c.replay_office-in-Ok.ensures.replays

pub returns-clause-replays : goal.returns-clause-replays
returns-clause-replays g c =
    not_installed g.S.Store c.install_policy.result c.in-Err.fault c.args.policy c.in-Some.policy c.args.office.now c.install_policy.new.office _ c.in-Some.is c.in-Err.is c.in-Err.ensures.failure c.install_policy.ensures.done
