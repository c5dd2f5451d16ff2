use Rattle.office_access.proofs.Lemmas.{◌∙◌, Store, there_told}
use Rattle.office_access.proofs.due.stored_due_row.Goals as goal

pub returns-clause-reads : goal.returns-clause-reads
returns-clause-reads g c clean office = there_told c.in_ok-found.found Store c.there.result c.there.ensures (λ due_row some. (c.in_ok-found.ensures.same clean office, some ∙ c.in_ok-found.ensures.found clean office))
