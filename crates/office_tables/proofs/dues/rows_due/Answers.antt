use Rattle.office_tables.proofs.Lemmas.{w64, to_z-of_z, IfOk-weaker, lists_due}
use Rattle.office_tables.proofs.dues.rows_due.Goals as goal

pub returns-clause-found : goal.returns-clause-found
returns-clause-found g c clean office =
    let day = to_z-of_z w64 c.args.day c.ranges.day in
    IfOk-weaker c.ask.result _ _ (λ rows h. lists_due _ _ c.args.day rows.items office h) (rw (c.params-to_sql.ensures, c.params-to_sql-2.ensures, day) at (c.ask.ensures.shown clean))
