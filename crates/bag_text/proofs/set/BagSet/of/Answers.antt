use Rattle.bag_text.proofs.Lemmas.{files_of, is_list, is_made, is_refused, has_fault}
use Rattle.bag_text.proofs.set.BagSet.of.Goals as goal

pub returns-clause-made : goal.returns-clause-made
returns-clause-made c = is_list (files_of c.args.files.now) c.make.result c.make.ensures

pub returns-clause-only : goal.returns-clause-only
returns-clause-only c = λ bag. is_made (files_of c.args.files.now) c.make.result bag c.make.ensures

pub returns-clause-fault : goal.returns-clause-fault
returns-clause-fault c = has_fault (files_of c.args.files.now) c.make.result c.make.ensures

pub returns-clause-refused : goal.returns-clause-refused
returns-clause-refused c = λ fault stands. is_refused (files_of c.args.files.now) c.make.result fault stands c.make.ensures
