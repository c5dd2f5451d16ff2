use Rattle.office_tables.proofs.Lemmas.{sym, subst, HasCleanDisk, state, IsOffice, stored_once, same_after, same_as, clean_first}
use Rattle.office_tables.proofs.classes.put_collection.Goals as goal

pub returns-in_ok-add_collection-clause-contents : goal.returns-in_ok-add_collection-clause-contents
returns-in_ok-add_collection-clause-contents g c clean office =
    let early : HasCleanDisk (state g.S.Store c.has_collection.new.tx.conn.now) = clean_first c.add_collection.ensures.inside.stays clean in
    let same = c.in_ok-has_collection.ensures.same early office in
    same_after (same_as same) (c.in_ok-add_collection.ensures.contents clean (subst IsOffice (sym same) office))

pub returns-in_ok-add_collection-clause-once : goal.returns-in_ok-add_collection-clause-once
returns-in_ok-add_collection-clause-once g c clean office kept = stored_once (returns-in_ok-add_collection-clause-contents g c clean office) kept

pub returns-else-not-branch-clause-contents : goal.returns-else-not-branch-clause-contents
returns-else-not-branch-clause-contents g c clean office = same_as (c.in_ok-has_collection.ensures.same clean office)
