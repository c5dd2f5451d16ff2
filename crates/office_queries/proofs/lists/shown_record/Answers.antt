use Rattle.office_queries.proofs.Common.{None, refl, option_map, rules, ◌≡◌, true, false, Some, ap, sym, ◌∙◌, state, tables_of, wanted_of, is_shown, record_by}
use Rattle.office_queries.proofs.ListedByRow as listed
use Rattle.office_queries.proofs.lists.shown_record.Goals as goal

pub returns-in_ok-record_in-clause-reads : goal.returns-in_ok-record_in-clause-reads
returns-in_ok-record_in-clause-reads g c clean office =
    let a = c.args in
    let t = tables_of (state g.S.Store a.tx.now.conn.now).now in
    let both = a.row.now in
    let wanted = wanted_of a.collection a.class in
    let found = c.in_ok-is_shown.ensures.reads clean office in
    let same : c.row.inside.deposit ≡ both.0 = search rules in
    let told : record_by both.0 both.1 ≡ Some c.in_ok-record_in.field-0 = search rules in
    let shown : c.in_ok-is_shown.field-0 ≡ true = search rules in (
      found.0,
      λ role day these.
          let said = found.1 role day these in
          (said.0, listed.listed_if t role day wanted both true (Some c.in_ok-record_in.field-0) (ap (is_shown t role day wanted) (sym same) ∙ said.1 ∙ ap Some shown) (ap (option_map Some) told)),
    )

pub returns-else-branch-clause-reads : goal.returns-else-branch-clause-reads
returns-else-branch-clause-reads g c clean office =
    let a = c.args in
    let t = tables_of (state g.S.Store a.tx.now.conn.now).now in
    let both = a.row.now in
    let wanted = wanted_of a.collection a.class in
    let found = c.in_ok-is_shown.ensures.reads clean office in
    let same : c.row.inside.deposit ≡ both.0 = search rules in
    let hidden : c.in_ok-is_shown.field-0 ≡ false = search rules in (
      found.0,
      λ role day these.
          let said = found.1 role day these in
          (said.0, listed.listed_if t role day wanted both false None (ap (is_shown t role day wanted) (sym same) ∙ said.1 ∙ ap Some hidden) refl),
    )
