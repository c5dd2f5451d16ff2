use Rattle.office_tables.proofs.Lemmas.{pos, IfOk-weaker, finds_due}
use Rattle.office_tables.proofs.dues.rows_of_due.Goals as goal

pub returns-clause-found : goal.returns-clause-found
returns-clause-found g c clean office =
    IfOk-weaker c.ask.result _ _ (λ rows h. finds_due _ _ (pos c.args.number) rows.items office h) (rw c.params-to_sql.ensures at (c.ask.ensures.shown clean))
