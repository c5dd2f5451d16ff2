use Rattle.office_tables.proofs.Lemmas.{pos, w64, to_z-of_z, ends_hold, stored_once, end_hold_same}
use Rattle.office_tables.proofs.holds.end_hold.Goals as goal

pub returns-clause-becomes : goal.returns-clause-becomes
returns-clause-becomes g c clean office = ends_hold _ _ (pos c.args.number) c.args.day c.in_ok-change.field-0 office (rw (c.params-to_sql.ensures, c.params-to_sql-2.ensures, to_z-of_z w64 c.args.day c.ranges.day) at (c.in_ok-change.ensures.ran clean))

pub returns-clause-contents : goal.returns-clause-contents
returns-clause-contents g c clean office = end_hold_same _ _ _ c.in_ok-change.field-0 office (c.in_ok-change.ensures.ran clean)

pub returns-clause-once : goal.returns-clause-once
returns-clause-once g c clean office kept = stored_once (returns-clause-contents g c clean office) kept
