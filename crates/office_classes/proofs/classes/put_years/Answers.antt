use Rattle.office_classes.proofs.Common.{rules, w64, ◌≡◌, Some, ap, SFits, to_z-of_z, on_ok_weaker, state, with_class, class_closings, tables_of, years_number, with_due_days, changed_as, changes_by, changes_then}
use Rattle.office_by_rows.specs.Changes.{with_years}
use Rattle.office_classes.proofs.DueDaysByRows.{closings_still}
use Rattle.office_classes.proofs.classes.put_years.Goals as goal

pub returns-clause-changes : goal.returns-clause-changes
returns-clause-changes g c clean office =
    let a = c.args in
    let t = tables_of (state g.S.Store a.tx.now.conn.now).now in
    let put = c.in_ok-put_class.ensures in
    let years : c.years_number.result ≡ years_number a.years = search rules in
    let fits : SFits w64 c.years_number.result = search rules in
    let puts = changes_by put.inside (with_class a.name.now (years_number a.years)) (rw (to_z-of_z w64 c.years_number.result fits, years) at put.becomes) put.contents in
    on_ok_weaker c.set_days_of_class.result (changed_as _ (with_years a.name.now a.years) (ap (λ rows. with_due_days a.years rows (with_class a.name.now (years_number a.years) t)) (closings_still a.name.now (years_number a.years) t)))
    (changes_then put.inside c.set_days_of_class.ensures.inside (λ t. Some (with_class a.name.now (years_number a.years) t)) (λ t. with_due_days a.years (class_closings a.name.now t) t) puts c.set_days_of_class.ensures.changes clean office)
