use Rattle.office_classes.proofs.Common.{rules, ◌≡◌, w64, pos, Some, Ok, option_map, ap, ◌∙◌, SFits, to_z-of_z, on_ok_weaker, state, due_number, due_of, Tables, with_dues, tables_of, day_numbered, there_is, changed_as, changes_by}
use Rattle.std.specs.Option.{ok_or}
use Rattle.office_contents.specs.declared.fault.TableFault.TheVariants.{Store}
use Rattle.office_classes.proofs.DueDaysByRows.{with_series}
use Rattle.office_classes.proofs.classes.set_series.Goals as goal

pub returns-clause-changes : goal.returns-clause-changes
returns-clause-changes g c clean office =
    let a = c.args in
    let old = state g.S.Store a.tx.now.conn.now in
    let fits : SFits w64 c.first.inside.closed = search rules in
    let from : pos c.first.inside.number ≡ a.first.now.number = search rules in
    let to : pos c.last.inside.number ≡ a.last.now.number = search rules in
    let there : c.first.inside.closed ≡ a.first.now.closed = search rules in
    let read : Ok c.in_ok-closed.closed ≡ ok_or (day_numbered c.first.inside.closed) Store = rw (to_z-of_z w64 c.first.inside.closed fits) at c.in_ok-closed.ensures.reads in
    let told : Some c.in_ok-closed.closed ≡ day_numbered a.first.now.closed = there_is (day_numbered c.first.inside.closed) Store c.in_ok-closed.closed read ∙ ap day_numbered there in
    let day : c.number.result ≡ due_number (due_of c.in_ok-closed.closed a.years) = c.number.ensures ∙ ap due_number c.due.ensures.exact in
    let set : Tables → Tables = with_dues a.first.now.number a.last.now.number (due_number (due_of c.in_ok-closed.closed a.years)) in
    on_ok_weaker c.set_dues.result (changed_as (λ t. Some (set t)) (with_series a.years a.first.now a.last.now) (ap (option_map (λ closed. with_dues a.first.now.number a.last.now.number (due_number (due_of closed a.years)) (tables_of old.now))) told))
    (changes_by c.set_dues.ensures.inside set (rw (from, to, day) at c.set_dues.ensures.becomes) c.set_dues.ensures.contents clean office)
