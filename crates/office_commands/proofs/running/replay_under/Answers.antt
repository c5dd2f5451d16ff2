use Rattle.office_commands.proofs.Common.{inr}
use Rattle.office_commands.proofs.running.replay_under.Goals as goal

pub returns-in-Ok : goal.returns-in-Ok
returns-in-Ok g c = record { comes = inr (c.in-Ok.file, c.replay_from.ensures.comes); unlogged = c.replay_from.ensures.unlogged; quiet = c.replay_from.ensures.quiet }
