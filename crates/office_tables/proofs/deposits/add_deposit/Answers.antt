use Rattle.office_tables.proofs.Lemmas.{rules, refl, w64, to_z-of_z, on_ok, added_row, add_deposit_same}
use Rattle.office_tables.proofs.DepositAdded.{bound_due, is_added}
use Rattle.office_tables.proofs.deposits.add_deposit.Goals as goal

pub returns-clause-added : goal.returns-clause-added
returns-clause-added g c clean office =
    let d = c.args.deposit in
    let closed = to_z-of_z w64 d.closed (search rules) in
    let deposited = to_z-of_z w64 d.deposited (search rules) in
    let files = to_z-of_z w64 d.files (search rules) in
    let bytes = to_z-of_z w64 d.bytes (search rules) in
    let holds = to_z-of_z w64 c.args.holds (search rules) in
    let ran = rw (c.params-to_sql.ensures, c.params-to_sql-2.ensures, c.params-to_sql-3.ensures, c.params-to_sql-4.ensures, c.params-to_sql-5.ensures, c.params-to_sql-6.ensures, c.params-to_sql-7.ensures, c.params-to_sql-8.ensures, c.params-to_sql-9.ensures, c.params-to_sql-10.ensures, closed, deposited, files, bytes, bound_due c.args.due, holds) at (c.change.ensures.ran clean) in
    on_ok c.change.result (λ count h. is_added _ _ (added_row d) c.args.due c.args.holds refl count office h) ran

pub returns-clause-contents : goal.returns-clause-contents
returns-clause-contents g c clean office = on_ok c.change.result (λ count h. add_deposit_same _ _ _ count office h) (c.change.ensures.ran clean)
