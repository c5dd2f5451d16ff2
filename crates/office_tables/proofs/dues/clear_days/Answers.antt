use Rattle.office_tables.proofs.Lemmas.{pos, clears_dues, clear_days_same}
use Rattle.office_tables.proofs.dues.clear_days.Goals as goal

pub returns-clause-becomes : goal.returns-clause-becomes
returns-clause-becomes g c clean office = clears_dues _ _ (pos c.args.first) (pos c.args.last) c.in_ok-change.field-0 office (rw (c.params-to_sql.ensures, c.params-to_sql-2.ensures) at (c.in_ok-change.ensures.ran clean))

pub returns-clause-contents : goal.returns-clause-contents
returns-clause-contents g c clean office = clear_days_same _ _ _ c.in_ok-change.field-0 office (c.in_ok-change.ensures.ran clean)
