use Rattle.office_tables.proofs.HeldLemmas.{are_contents}
use Rattle.office_tables.proofs.laws.contents_are_those_of_files.Goals as goal

pub returns : goal.returns
returns c = are_contents
