use Rattle.bag_text.proofs.Common.{◌∙◌, sym, refl}
use Rattle.bag_text.proofs.PathLemmas.{test_passes, good_read, one_fault}
use Rattle.bag_text.proofs.path.BagPath.read.Goals as goal

pub invariant_of-result : goal.invariant_of-result
invariant_of-result c = test_passes c.args.text.now c.utf8.text (sym c.fault_of.ensures ∙ c.in-None.is)

pub returns-in-None-clause-good : goal.returns-in-None-clause-good
returns-in-None-clause-good c = (refl, good_read c.args.text.now (test_passes c.args.text.now c.utf8.text (sym c.fault_of.ensures ∙ c.in-None.is)))

pub returns-in-Some-clause-answered : goal.returns-in-Some-clause-answered
returns-in-Some-clause-answered c = λ good. absurd (one_fault c.args.text.now c.in-Some.fault (sym c.fault_of.ensures ∙ c.in-Some.is) good)
