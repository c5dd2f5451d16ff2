use Rattle.office_tables.proofs.Lemmas.{pos, clears_due, clear_day_same}
use Rattle.office_tables.proofs.dues.clear_day.Goals as goal

pub returns-clause-becomes : goal.returns-clause-becomes
returns-clause-becomes g c clean office = clears_due _ _ (pos c.args.number) c.in_ok-change.field-0 office (rw c.params-to_sql.ensures at (c.in_ok-change.ensures.ran clean))

pub returns-clause-contents : goal.returns-clause-contents
returns-clause-contents g c clean office = clear_day_same _ _ _ c.in_ok-change.field-0 office (c.in_ok-change.ensures.ran clean)
