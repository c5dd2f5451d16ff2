use Rattle.office_tables.proofs.Lemmas.{has_content, has_intact}
use Rattle.office_tables.proofs.laws.files_have_their_contents.Goals as goal

pub returns-clause-there : goal.returns-clause-there
returns-clause-there c db office n path f is = let it = has_content db office n path f is in (it.0, it.1, it.2)

pub returns-clause-intact : goal.returns-clause-intact
returns-clause-intact c db office kept n path f is = has_intact db office n path kept f is
