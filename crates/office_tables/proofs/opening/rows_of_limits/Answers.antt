use Rattle.office_tables.proofs.Common.{IfOk-weaker}
use Rattle.office_tables.proofs.OfficeLemmas.{asks_limits, finds_limits}
use Rattle.office_contents.proofs.Undone.{fails_in_store}
use Rattle.office_tables.proofs.opening.rows_of_limits.Goals as goal

pub returns-clause-found : goal.returns-clause-found
returns-clause-found g c clean office =
    IfOk-weaker c.ask.result _ _ (λ rows h. finds_limits _ _ rows.items office h) (rw c.params-to_sql.ensures at (c.ask.ensures.shown clean))

pub returns-clause-store : goal.returns-clause-store
returns-clause-store g c clean office = fails_in_store asks_limits _ _ _ office c.ask.result c.ask.ensures.inside.failure (c.ask.ensures.memory clean)
