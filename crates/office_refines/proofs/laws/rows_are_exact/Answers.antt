use Rattle.office_refines.proofs.Common.{this_version}
use Rattle.office_refines.proofs.Changes.{rows_exact}
use Rattle.office_refines.proofs.laws.rows_are_exact.Goals as goal

pub returns : goal.returns
returns c = λ h visit request legal. rows_exact h legal (c.pictures_are_in_range.ensures h this_version legal) visit request
