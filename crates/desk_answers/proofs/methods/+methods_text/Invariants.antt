use Rattle.desk_answers.proofs.Common.{length}
use Rattle.desk_answers.proofs.methods.+methods_text.Given as goal

abbrev pub decreases-methods_text : goal.decreases-methods_text
decreases-methods_text l = length l.methods.now
