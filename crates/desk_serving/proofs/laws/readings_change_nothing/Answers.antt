use Rattle.desk_serving.proofs.NoteLemmas.{noted_reading, nothing_changed}
use Rattle.desk_serving.proofs.laws.readings_change_nothing.Goals as goal

pub returns-clause-change : goal.returns-clause-change
returns-clause-change c = nothing_changed

pub returns-clause-reads : goal.returns-clause-reads
returns-clause-reads c = noted_reading
