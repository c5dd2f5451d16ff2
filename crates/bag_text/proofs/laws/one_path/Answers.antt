use Rattle.bag_text.proofs.Lemmas.{spells_iff}
use Rattle.bag_text.proofs.laws.one_path.Goals as goal

pub returns : goal.returns
returns c = spells_iff
