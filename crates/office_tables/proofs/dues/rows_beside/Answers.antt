use Rattle.office_tables.proofs.Lemmas.{IfOk-weaker, lists_beside}
use Rattle.office_tables.proofs.dues.rows_beside.Goals as goal

pub returns-clause-found : goal.returns-clause-found
returns-clause-found g c clean office =
    IfOk-weaker c.ask.result _ _ (λ rows h. lists_beside _ _ rows.items office h) (c.ask.ensures.shown clean)
