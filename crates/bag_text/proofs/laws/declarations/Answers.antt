use Rattle.bag_text.proofs.DeclarationLemmas.{declares, is_first_fault}
use Rattle.bag_text.proofs.laws.declarations.Goals as goal

pub returns-clause-declared : goal.returns-clause-declared
returns-clause-declared c = declares

pub returns-clause-first : goal.returns-clause-first
returns-clause-first c = is_first_fault
