use Rattle.office_refines.proofs.Common.{ap, is_some}
use Rattle.office_refines.proofs.laws.no_legal_office_is_taken_for_an_altered_one.Goals as goal

pub returns : goal.returns
returns c = λ h visit request legal. ap is_some (c.requests_are_exact.ensures h visit request legal)
