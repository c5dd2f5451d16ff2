use Rattle.bag_text.proofs.Lemmas.{form_or_fault, form_has_none, one_fault_stands}
use Rattle.bag_text.proofs.laws.one_fault.Goals as goal

pub returns : goal.returns
returns c = record { whole = form_or_fault; apart = form_has_none; one = one_fault_stands }
