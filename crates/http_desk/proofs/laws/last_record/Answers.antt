use Rattle.http_desk.proofs.Lemmas.{refl, wanted_none}
use Rattle.http_desk.proofs.laws.last_record.Goals as goal

pub returns-clause-end : goal.returns-clause-end
returns-clause-end c = λ items rest each few wants. record { text = refl; each = each; few = few; ends = λ _. wanted_none rest wants }
