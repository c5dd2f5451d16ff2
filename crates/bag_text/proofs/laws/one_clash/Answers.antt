use Rattle.bag_text.proofs.Lemmas.{clash_law}
use Rattle.bag_text.proofs.laws.one_clash.Goals as goal

pub returns : goal.returns
returns c = clash_law
