use Rattle.office_tables.proofs.Lemmas.{w64, to_z-of_z, adds_holds, stored_once, add_holds_same}
use Rattle.office_tables.proofs.dues.add_holds.Goals as goal

pub returns-clause-becomes : goal.returns-clause-becomes
returns-clause-becomes g c clean office = (adds_holds _ _ c.args.collection.now c.args.by c.in_ok-change.field-0 office (rw (c.params-to_sql.ensures, c.params-to_sql-2.ensures, to_z-of_z w64 c.args.by c.ranges.by) at (c.in_ok-change.ensures.ran clean))).0

pub returns-clause-fits : goal.returns-clause-fits
returns-clause-fits g c clean office = (adds_holds _ _ c.args.collection.now c.args.by c.in_ok-change.field-0 office (rw (c.params-to_sql.ensures, c.params-to_sql-2.ensures, to_z-of_z w64 c.args.by c.ranges.by) at (c.in_ok-change.ensures.ran clean))).1

pub returns-clause-contents : goal.returns-clause-contents
returns-clause-contents g c clean office = add_holds_same _ _ _ c.in_ok-change.field-0 office (c.in_ok-change.ensures.ran clean)

pub returns-clause-once : goal.returns-clause-once
returns-clause-once g c clean office kept = stored_once (returns-clause-contents g c clean office) kept
