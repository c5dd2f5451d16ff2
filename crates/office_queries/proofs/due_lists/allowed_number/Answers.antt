use Rattle.office_queries.proofs.Common.{rules, ◌≡◌, Some, None, pos, ap, sym, ◌∙◌, if◌then◌else◌, state, tables_of, Store, is_allowed_for, count_of, due_of_number}
use Rattle.office_core.specs.declared.action.Action.TheVariants as acts
use Rattle.office_access.proofs.RowsRead.{some_read}
use Rattle.office_queries.proofs.ListedByRow.{number_if_told}
use Rattle.office_queries.proofs.due_lists.allowed_number.Goals as goal

pub returns-clause-reads : goal.returns-clause-reads
returns-clause-reads g c clean office =
    let row = c.args.row.now in
    let t = tables_of (state g.S.Store c.args.tx.now.conn.now).now in
    let n = c.row.inside.number in
    let number : pos n ≡ row.number = search rules in
    let kept : c.row.inside.due ≡ row.due = search rules in
    let collection : c.deref.result.now ≡ row.collection = search rules in
    let class : c.deref-2.result.now ≡ row.class = search rules in
    let given : (if c.in_ok-allowed.allowed then Some n else None) ≡ c.then_some.result = search rules in
    let due = ap due_of_number (sym kept) ∙ some_read (due_of_number c.row.inside.due) Store c.in_ok-due_numbered.field-0 c.in_ok-due_numbered.ensures.reads in
    let found = c.in_ok-allowed.ensures.reads clean office in (
      found.0,
      λ role day known.
          let said = found.1 role day acts.Dispose known in
          (said.0, number_if_told t role day row c.in_ok-due_numbered.field-0 due n c.in_ok-allowed.allowed ((λ i. is_allowed_for t role day acts.Dispose (sym collection i) (sym class i)) ∙ said.1) (ap count_of (sym number)) ∙ ap Some given),
    )
