use Rattle.office_tables.proofs.Lemmas.{IfOk-weaker, lists_class}
use Rattle.office_tables.proofs.dues.rows_closed.Goals as goal

pub returns-clause-found : goal.returns-clause-found
returns-clause-found g c clean office =
    IfOk-weaker c.ask.result _ _ (λ rows h. lists_class _ _ c.args.class.now rows.items office h) (rw c.params-to_sql.ensures at (c.ask.ensures.shown clean))
