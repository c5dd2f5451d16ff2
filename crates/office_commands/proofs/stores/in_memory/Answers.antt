use Rattle.office_commands.proofs.StoreLemmas.{runs_in_memory}
use Rattle.office_commands.proofs.stores.in_memory.Goals as goal

pub returns-in-Ok-clause-runs : goal.returns-in-Ok-clause-runs
returns-in-Ok-clause-runs g c =
    runs_in_memory c.do_task.result c.args.task.now c.in-Ok.office c.do_task.new.office _ _ c.in-Ok.ensures.made c.do_task.ensures.does
