use Rattle.bag_text.proofs.Lemmas.{two_texts, none_begins}
use Rattle.bag_text.proofs.laws.one_text.Goals as goal

pub returns-clause-one : goal.returns-clause-one
returns-clause-one c = two_texts

pub returns-clause-apart : goal.returns-clause-apart
returns-clause-apart c = none_begins
