use Rattle.office_deposits.proofs.Common.{rules, w64, SFits, to_z-of_z, due_number, with_deposit_and_due, changes_by}
use Rattle.office_tables.specs.Deposits.{added_row}
use Rattle.office_deposits.proofs.storing.put_row.Goals as goal

pub returns-clause-changes : goal.returns-clause-changes
returns-clause-changes g c =
    let a = c.args in
    let put = c.put_deposit_and_due.ensures in
    let fits : SFits w64 a.holds = search rules in
    changes_by put.inside (with_deposit_and_due (added_row a.deposit) (due_number a.due) a.holds) (rw (c.number.ensures, to_z-of_z w64 a.holds fits) at put.becomes) put.contents
