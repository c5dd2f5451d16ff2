use Rattle.bag_check.proofs.Lemmas.{escapes}
use Rattle.bag_check.proofs.display.escaped_bytes.Goals as goal

pub returns : goal.returns
returns c = escapes
