use Rattle.bag_check.proofs.CountsLemmas.{digits_all}
use Rattle.bag_check.proofs.oxum.split_number.Goals as goal

pub read_number-requires : goal.read_number-requires
read_number-requires c = rw c.split_digits.ensures.digits (digits_all c.args.text.now)
