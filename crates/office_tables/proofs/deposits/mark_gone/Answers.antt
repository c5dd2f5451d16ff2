use Rattle.office_tables.proofs.Lemmas.{pos, w64, to_z-of_z, marks_gone, stored_once, mark_gone_same}
use Rattle.office_tables.proofs.deposits.mark_gone.Goals as goal

pub returns-clause-becomes : goal.returns-clause-becomes
returns-clause-becomes g c clean office = marks_gone _ _ (pos c.args.number) c.args.day c.in_ok-change.field-0 office (rw (c.params-to_sql.ensures, c.params-to_sql-2.ensures, to_z-of_z w64 c.args.day c.ranges.day) at (c.in_ok-change.ensures.ran clean))

pub returns-clause-contents : goal.returns-clause-contents
returns-clause-contents g c clean office = mark_gone_same _ _ _ c.in_ok-change.field-0 office (c.in_ok-change.ensures.ran clean)

pub returns-clause-once : goal.returns-clause-once
returns-clause-once g c clean office kept = stored_once (returns-clause-contents g c clean office) kept
