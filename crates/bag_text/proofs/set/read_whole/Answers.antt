use Rattle.bag_text.proofs.Lemmas.{files_of, set_ok}
use Rattle.bag_text.proofs.set.read_whole.Goals as goal

-- what was read is a bag
pub invariant_of-result : goal.invariant_of-result
invariant_of-result c = (set_ok c.args.text.now (files_of c.in_ok-files.files.items) c.in_ok-files.ensures).bag
