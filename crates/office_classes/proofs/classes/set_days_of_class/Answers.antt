use Rattle.office_classes.proofs.Common.{rules, ◌≡◌, ap, on_ok_weaker, state, class_closings, tables_of, clean_first, with_due_days, office_still, changed_after, changed_as}
use Rattle.office_classes.proofs.classes.set_days_of_class.Goals as goal

pub returns-clause-changes : goal.returns-clause-changes
returns-clause-changes g c clean office =
    let a = c.args in
    let old = state g.S.Store a.tx.now.conn.now in
    let early = clean_first c.set_due_days.ensures.inside.stays clean in
    let same = c.in_ok-rows.ensures.same early office in
    let found : c.deref.result.now ≡ class_closings a.class.now (tables_of old.now) = search (rules, c.in_ok-rows.ensures.found early office) in
    on_ok_weaker c.set_due_days.result (λ set. changed_as (with_due_days a.years c.deref.result.now) (λ t. with_due_days a.years (class_closings a.class.now t) t) (ap (λ rows. with_due_days a.years rows (tables_of old.now)) found)
    (changed_after (with_due_days a.years c.deref.result.now) same set))
    (c.set_due_days.ensures.changes clean (office_still same office))
