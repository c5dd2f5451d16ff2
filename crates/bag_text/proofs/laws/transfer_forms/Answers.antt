use Rattle.bag_text.proofs.Lemmas.{◌∙◌, ap, set_of, set_ok, set_again, refuses, set_fault}
use Rattle.bag_text.proofs.laws.transfer_forms.Goals as goal

pub returns-clause-read : goal.returns-clause-read
returns-clause-read c = λ t files. (λ e. let read = set_ok t files e in (read.bag, read.text), λ is. ap set_of is.1 ∙ set_again files is.0)

pub returns-clause-first : goal.returns-clause-first
returns-clause-first c = λ t fault. (set_fault t fault, refuses t fault)
