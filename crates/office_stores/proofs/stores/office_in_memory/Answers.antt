use Rattle.office_stores.proofs.FileLemmas.{made_in_memory}
use Rattle.office_stores.proofs.stores.office_in_memory.Goals as goal

pub returns-in-Ok-clause-made : goal.returns-in-Ok-clause-made
returns-in-Ok-clause-made c = made_in_memory c.make_office.result c.make_office.ensures.made
