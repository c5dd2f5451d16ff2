use Rattle.office_commands.proofs.Common.{refl}
use Rattle.office_commands.proofs.WorkLemmas.{does_ask, does_install, does_replay, does_serve}
use Rattle.office_commands.proofs.task.do_task.Goals as goal

pub returns-in-Policy-clause-does : goal.returns-in-Policy-clause-does
returns-in-Policy-clause-does g c =
    does_install g.S.Store c.args.task.now c.in-Policy.policy c.install_policy.result c.args.office.now c.install_policy.new.office _ c.in-Policy.is c.install_policy.ensures.failure c.install_policy.ensures.done

pub returns-in-Serve-clause-does : goal.returns-in-Serve-clause-does
returns-in-Serve-clause-does g c =
    does_serve g.S.Store c.args.task.now c.in-Serve.day c.in-Serve.port c.in-Serve.count c.serve_at.result c.args.office.now c.serve_at.new.office _ _ c.in-Serve.is refl c.serve_at.ensures.serves

pub returns-in-Ask-clause-does : goal.returns-in-Ask-clause-does
returns-in-Ask-clause-does g c =
    does_ask g.S.Store c.args.task.now c.in-Ask.day c.ask_office.result c.args.office.now c.ask_office.new.office _ _ c.in-Ask.is refl c.ask_office.ensures.asks

pub returns-in-Replay-clause-does : goal.returns-in-Replay-clause-does
returns-in-Replay-clause-does g c =
    does_replay g.S.Store c.args.task.now c.in-Replay.policy c.replay_after.result c.args.office.now c.replay_after.new.office _ _ c.in-Replay.is refl c.replay_after.ensures.replays
