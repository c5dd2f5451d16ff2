use Rattle.office_contents.proofs.Lemmas.{w64, to_z-of_z, IfOk-weaker, finds_users}
use Rattle.office_contents.proofs.content.rows_of_users.Goals as goal

pub returns-clause-found : goal.returns-clause-found
returns-clause-found g c clean office =
    IfOk-weaker c.ask.result _ _ (λ rows h. finds_users _ _ c.args.id rows.items office h) (rw (c.params-to_sql.ensures, to_z-of_z w64 c.args.id c.ranges.id) at (c.ask.ensures.shown clean))
