use Rattle.office_commands.proofs.Common.{ap, Replay}
use Rattle.office_commands.proofs.WorkLemmas.{comes_as, of_host}
use Rattle.office_commands.proofs.running.replay_in.Goals as goal

pub returns-in-Some : goal.returns-in-Some
returns-in-Some g c = record { comes = comes_as _ _ c.args.store.now (Replay c.args.policy) _ _ c.replay_under.result _ _ (ap Replay c.in-Some.is) (c.replay_under.ensures.quiet, of_host c.replay_under.ensures.comes); unlogged = c.replay_under.ensures.unlogged }
