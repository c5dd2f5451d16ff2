use Rattle.office_tables.proofs.Common.{◌∙◌, ◌+◌, drop, rules, arith, at_drop_more, at_drop_all, known_row}
use Rattle.office_tables.proofs.Looking.{passed_over}
use Rattle.office_tables.proofs.opening.version_among.Goals as goal

pub loop-row-preserved : goal.loop-row-preserved
loop-row-preserved c =
    let rows = c.args.rows.now in
    let at = c.loop-row.row-index in
    let row = c.row-item.result in
    c.loop-row.invariant ∙ at_drop_more known_row rows at row (search rules) ∙ passed_over row _ (drop (at + 1) rows) c.row-item.is (rw c.in_default.is at c.version_in.ensures)

pub returns : goal.returns
returns c = c.loop-row.invariant ∙ at_drop_all known_row c.args.rows.now c.loop-row.row-index (omega (arith, c.loop-row-test.false))
