use Rattle.bag_text.proofs.Lemmas.{◌∙◌, ap, subst, Gives, named_set_fault, set_of, is_found, set_again, refuses, is_fault}
use Rattle.bag_text.proofs.set.read_bagset.Goals as goal

pub returns-clause-found : goal.returns-clause-found
returns-clause-found c = is_found c.args.text.now (λ set. set) c.read_whole.result c.read_whole.ensures

pub returns-clause-only : goal.returns-clause-only
returns-clause-only c = λ files bag is. subst (λ read. Gives named_set_fault (λ set. set) c.read_whole.result read) (ap set_of is ∙ set_again files bag) c.read_whole.ensures

pub returns-clause-fault : goal.returns-clause-fault
returns-clause-fault c = is_fault c.args.text.now (λ set. set) c.read_whole.result c.read_whole.ensures

pub returns-clause-refused : goal.returns-clause-refused
returns-clause-refused c = λ fault stands. subst (λ read. Gives named_set_fault (λ set. set) c.read_whole.result read) (refuses c.args.text.now fault stands) c.read_whole.ensures
