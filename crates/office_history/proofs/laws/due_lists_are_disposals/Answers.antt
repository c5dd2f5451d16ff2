use Rattle.office_history.proofs.Lemmas.{listed_is_due, due_is_listed}
use Rattle.office_history.proofs.laws.due_lists_are_disposals.Goals as goal

pub returns : goal.returns
returns c = λ h day caller n. (listed_is_due h day caller n, due_is_listed h day caller n)
