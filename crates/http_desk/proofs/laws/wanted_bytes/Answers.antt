use Rattle.http_desk.proofs.Lemmas.{wanted_none, wanted_short, line_begins}
use Rattle.http_desk.proofs.laws.wanted_bytes.Goals as goal

pub returns-clause-none : goal.returns-clause-none
returns-clause-none c = wanted_none

pub returns-clause-short : goal.returns-clause-short
returns-clause-short c = wanted_short

pub returns-clause-line : goal.returns-clause-line
returns-clause-line c = line_begins
