use Rattle.office_contents.proofs.Lemmas.{pos, IfOk-weaker, lists_files}
use Rattle.office_contents.proofs.files.rows_of_files.Goals as goal

pub returns-clause-found : goal.returns-clause-found
returns-clause-found g c clean office =
    IfOk-weaker c.ask.result _ _ (λ rows h. let it = lists_files _ _ (pos c.args.number) rows.items office h in (it.0, it.1)) (rw c.params-to_sql.ensures at (c.ask.ensures.shown clean))

pub returns-clause-each : goal.returns-clause-each
returns-clause-each g c clean office =
    IfOk-weaker c.ask.result _ _ (λ rows h. (lists_files _ _ (pos c.args.number) rows.items office h).2) (rw c.params-to_sql.ensures at (c.ask.ensures.shown clean))
