use Rattle.office_contents.proofs.Lemmas.{◌≡◌, true, false, not, filter, rules, sym, subst, ◌∙◌, w64, Database, HasCleanDisk, to_z-of_z, state, is_content, IsOffice, contents_of, HasSameFiles, tidies_used, tidies_removed, clean_first}
use Rattle.office_contents.proofs.content.drop_unused.Goals as goal

pub returns-in_ok-remove_content-clause-tidied : goal.returns-in_ok-remove_content-clause-tidied
returns-in_ok-remove_content-clause-tidied g c clean office ids =
    let old = (state g.S.Store c.args.tx.now.conn.now).now in
    let mid = state g.S.Store c.is_used.new.tx.conn.now in
    let new = (state g.S.Store c.remove_content.new.tx.conn.now).now in
    let clean_mid : HasCleanDisk mid = clean_first c.remove_content.ensures.inside.stays clean in
    let id = to_z-of_z w64 c.args.id c.ranges.id in
    let used = rw id at (c.in_ok-is_used.ensures.found clean_mid office) in
    let still : IsOffice mid.now = subst IsOffice (sym used.0) office in
    let removed = rw id at (c.in_ok-remove_content.ensures.removed clean still) in
    let from_old : HasSameFiles old new × (contents_of new ≡ filter (λ k. not (is_content c.args.id k)) (contents_of old)) =
    subst (λ (db : Database). HasSameFiles db new × (contents_of new ≡ filter (λ k. not (is_content c.args.id k)) (contents_of db))) used.0 removed in
    let isnt : c.in_ok-is_used.field-0 ≡ false = search rules in
    tidies_removed c.args.id ids old new from_old.0 from_old.1 (used.1 ∙ isnt)

pub returns-else-not-branch-clause-tidied : goal.returns-else-not-branch-clause-tidied
returns-else-not-branch-clause-tidied g c clean office ids =
    let used = rw (to_z-of_z w64 c.args.id c.ranges.id) at (c.in_ok-is_used.ensures.found clean office) in
    let is : c.in_ok-is_used.field-0 ≡ true = search rules in
    tidies_used c.args.id ids (state g.S.Store c.args.tx.now.conn.now).now (state g.S.Store c.is_used.new.tx.conn.now).now office used.0 (used.1 ∙ is)
