use Rattle.office_tables.proofs.Lemmas.{IfOk-weaker, lists_rules}
use Rattle.office_tables.proofs.policy.rows_of_rules.Goals as goal

pub returns-clause-found : goal.returns-clause-found
returns-clause-found g c clean office =
    IfOk-weaker c.ask.result _ _ (λ rows h. lists_rules _ _ rows.items office h) (c.ask.ensures.shown clean)
