use Rattle.office_tables.proofs.Lemmas.{IfOk-weaker, finds_role}
use Rattle.office_tables.proofs.policy.rows_of_role.Goals as goal

pub returns-clause-found : goal.returns-clause-found
returns-clause-found g c clean office =
    IfOk-weaker c.ask.result _ _ (λ rows h. finds_role _ _ c.args.name.now rows.items office h) (rw c.params-to_sql.ensures at (c.ask.ensures.shown clean))
