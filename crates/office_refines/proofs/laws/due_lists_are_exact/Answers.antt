use Rattle.office_refines.proofs.Common.{this_version}
use Rattle.office_refines.proofs.Answers.{due_listed}
use Rattle.office_refines.proofs.laws.due_lists_are_exact.Goals as goal

pub returns : goal.returns
returns c = λ h visit legal. due_listed h legal (c.pictures_are_in_range.ensures h this_version legal) visit
