use Rattle.office_tables.proofs.Common.{fits_attempt, tables_of}
use Rattle.office_tables.proofs.OrderLemmas.{first_is_least, first_passes, first_there, in_order, none_passes}
use Rattle.office_tables.proofs.laws.matching_rules_are_least.Goals as goal

pub returns-clause-fits : goal.returns-clause-fits
returns-clause-fits c db office a r is = first_passes (fits_attempt a) (tables_of db).rules r is

pub returns-clause-there : goal.returns-clause-there
returns-clause-there c db office a r is = first_there (fits_attempt a) (tables_of db).rules r is

pub returns-clause-least : goal.returns-clause-least
returns-clause-least c db office a r is = first_is_least (λ r. r.place) (fits_attempt a) (tables_of db).rules (in_order db office).rules r is

pub returns-clause-none : goal.returns-clause-none
returns-clause-none c db office a is = none_passes (fits_attempt a) (tables_of db).rules is
