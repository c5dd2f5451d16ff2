use Rattle.office_tables.proofs.Lemmas.{pos, IfOk-weaker, finds_deposit}
use Rattle.office_tables.proofs.deposits.rows_of_deposit.Goals as goal

pub returns-clause-found : goal.returns-clause-found
returns-clause-found g c clean office =
    IfOk-weaker c.ask.result _ _ (λ rows h. finds_deposit _ _ (pos c.args.number) rows.items office h) (rw c.params-to_sql.ensures at (c.ask.ensures.shown clean))
