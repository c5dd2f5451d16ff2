use Rattle.office_tables.proofs.Lemmas.{IfOk-weaker, finds_accession}
use Rattle.office_tables.proofs.deposits.rows_of_accession.Goals as goal

pub returns-clause-found : goal.returns-clause-found
returns-clause-found g c clean office =
    IfOk-weaker c.ask.result _ _ (λ rows h. finds_accession _ _ c.args.accession.now rows.items office h) (rw c.params-to_sql.ensures at (c.ask.ensures.shown clean))
