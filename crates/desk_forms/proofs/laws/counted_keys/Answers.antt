use Rattle.desk_forms.proofs.CountLemmas.{once_by_count, nowhere_by_count}
use Rattle.desk_forms.proofs.laws.counted_keys.Goals as goal

pub returns-clause-once : goal.returns-clause-once
returns-clause-once c = once_by_count

pub returns-clause-nowhere : goal.returns-clause-nowhere
returns-clause-nowhere c = nowhere_by_count
