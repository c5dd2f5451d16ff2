use Rattle.bag_check.proofs.CodeLemmas.{escapes}
use Rattle.fault_words.proofs.escaped.escaped_bytes.Goals as goal

pub returns : goal.returns
returns c = escapes
