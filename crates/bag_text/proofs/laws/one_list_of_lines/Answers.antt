use Rattle.bag_text.proofs.Lemmas.{are_lines, one_list}
use Rattle.bag_text.proofs.laws.one_list_of_lines.Goals as goal

pub returns-clause-some : goal.returns-clause-some
returns-clause-some c = are_lines

pub returns-clause-one : goal.returns-clause-one
returns-clause-one c = one_list
