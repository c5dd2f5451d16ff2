use Rattle.office_commands.proofs.DeedLemmas.{answers_are_runs, connections_are_runs}
use Rattle.office_commands.proofs.laws.answers_are_runs.Goals as goal

pub returns-clause-records : goal.returns-clause-records
returns-clause-records c = answers_are_runs

pub returns-clause-connections : goal.returns-clause-connections
returns-clause-connections c = connections_are_runs
