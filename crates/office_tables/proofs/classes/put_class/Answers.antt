use Rattle.office_tables.proofs.Lemmas.{rules, w64, to_z-of_z, HasCleanDisk, state, tables_of, stored_once, same_after, clean_first, inside_failed, puts_class}
use Rattle.office_tables.proofs.classes.put_class.Goals as goal

pub returns-in_ok-add_class-clause-becomes : goal.returns-in_ok-add_class-clause-becomes
returns-in_ok-add_class-clause-becomes g c clean office =
    let mid = (state g.S.Store c.revise_class.new.tx.conn.now).now in
    let years = to_z-of_z w64 c.args.years c.ranges.years in
    let early : HasCleanDisk (state g.S.Store c.revise_class.new.tx.conn.now) = clean_first c.add_class.ensures.inside.stays clean in
    let first = rw years at (c.in_ok-revise_class.ensures.becomes early office) in
    let counted = c.in_ok-revise_class.ensures.counted early office in
    (puts_class (tables_of (state g.S.Store c.args.tx.now.conn.now).now) c.args.name.now c.args.years mid c.in_ok-revise_class.field-0 first counted).0 c.if-branch-eq0.true (state g.S.Store c.add_class.new.tx.conn.now).now (rw years at (c.in_ok-add_class.ensures.becomes clean first.office))

pub returns-in_err-add_class-clause-inside : goal.returns-in_err-add_class-clause-inside
returns-in_err-add_class-clause-inside g c = inside_failed c.in_ok-revise_class.ensures.inside c.add_class.ensures.inside _ (search rules) (search rules)

pub returns-in_ok-add_class-clause-contents : goal.returns-in_ok-add_class-clause-contents
returns-in_ok-add_class-clause-contents g c clean office =
    let early : HasCleanDisk (state g.S.Store c.revise_class.new.tx.conn.now) = clean_first c.add_class.ensures.inside.stays clean in
    same_after (c.in_ok-revise_class.ensures.contents early office) (c.in_ok-add_class.ensures.contents clean (c.in_ok-revise_class.ensures.becomes early office).office)

pub returns-in_ok-add_class-clause-once : goal.returns-in_ok-add_class-clause-once
returns-in_ok-add_class-clause-once g c clean office kept = stored_once (returns-in_ok-add_class-clause-contents g c clean office) kept
