use Rattle.test_bags.specs.Marks.{all_marks}
use Rattle.test_bags.proofs.marks.text_of.Goals as goal

pub returns : goal.returns
unfolding all_marks
returns c = c.with_meanings.ensures
