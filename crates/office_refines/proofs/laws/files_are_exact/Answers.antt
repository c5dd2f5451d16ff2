use Rattle.office_refines.proofs.Common.{this_version}
use Rattle.office_refines.proofs.Answers.{files_exact}
use Rattle.office_refines.proofs.laws.files_are_exact.Goals as goal

pub returns : goal.returns
returns c = λ h visit n legal. files_exact h legal (c.pictures_are_in_range.ensures h this_version legal) (c.sound_bags.ensures h legal) (λ files bag. (c.one_list_fault.ensures.none files).1 bag) visit n
