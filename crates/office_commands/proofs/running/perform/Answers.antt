use Rattle.office_commands.proofs.WorkLemmas.{comes_as, of_host}
use Rattle.office_commands.proofs.running.perform.Goals as goal

pub returns-in-Policy-clause-comes : goal.returns-in-Policy-clause-comes
returns-in-Policy-clause-comes g c = comes_as _ _ c.args.store.now c.args.work.now _ _ c.install_in.result _ _ c.in-Policy.is (of_host c.install_in.ensures.comes)

pub returns-in-Replay-clause-comes : goal.returns-in-Replay-clause-comes
returns-in-Replay-clause-comes g c = comes_as _ _ c.args.store.now c.args.work.now _ _ c.replay_in.result _ _ c.in-Replay.is c.replay_in.ensures.comes

pub returns-in-Serve-clause-comes : goal.returns-in-Serve-clause-comes
returns-in-Serve-clause-comes g c =
    comes_as _ _ c.args.store.now c.args.work.now _ _ c.in_store-in-Serve.result _ _ c.in-Serve.is (c.in_store-in-Serve.ensures.quiet, c.in_store-in-Serve.ensures.runs)
