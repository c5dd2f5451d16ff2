use Rattle.office_tables.proofs.Lemmas.{pos, w64, to_z-of_z, sets_holds, stored_once, set_holds_same}
use Rattle.office_tables.proofs.dues.set_holds.Goals as goal

pub returns-clause-becomes : goal.returns-clause-becomes
returns-clause-becomes g c clean office = sets_holds _ _ (pos c.args.number) c.args.holds c.in_ok-change.field-0 office (rw (c.params-to_sql.ensures, c.params-to_sql-2.ensures, to_z-of_z w64 c.args.holds c.ranges.holds) at (c.in_ok-change.ensures.ran clean))

pub returns-clause-contents : goal.returns-clause-contents
returns-clause-contents g c clean office = set_holds_same _ _ _ c.in_ok-change.field-0 office (c.in_ok-change.ensures.ran clean)

pub returns-clause-once : goal.returns-clause-once
returns-clause-once g c clean office kept = stored_once (returns-clause-contents g c clean office) kept
