use Rattle.bag_text.proofs.Lemmas.{files_of, made_bag}
use Rattle.bag_text.proofs.set.make.Goals as goal

-- what was made is a bag
pub invariant_of-result : goal.invariant_of-result
invariant_of-result c = made_bag (λ (v : _). files_of v.items) (files_of c.args.files.now) c.in_ok-files.files c.in_ok-files.ensures
