use Rattle.http_desk.proofs.RunLemmas.{runs_each}
use Rattle.http_desk.proofs.laws.replays_are_runs.Goals as goal

pub returns : goal.returns
returns g c = runs_each g.S.Store
