use Rattle.office_core.proofs.Lemmas.{first_place_is, no_place_is}
use Rattle.office_core.proofs.laws.first_matching_rule.Goals as goal

pub returns-clause-place : goal.returns-clause-place
returns-clause-place c = first_place_is

pub returns-clause-none : goal.returns-clause-none
returns-clause-none c = no_place_is
