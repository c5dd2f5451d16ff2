use Rattle.office_contents.proofs.Lemmas.{IfOk-weaker, finds_alike}
use Rattle.office_contents.proofs.content.rows_alike.Goals as goal

pub returns-clause-found : goal.returns-clause-found
returns-clause-found g c clean office =
    let shown = rw (c.params-to_sql.ensures, c.params-to_sql-2.ensures) at (c.ask.ensures.shown clean) in
    IfOk-weaker c.ask.result _ _ (λ rows h. finds_alike _ _ c.args.mark.now c.args.bytes.now rows.items office h) shown
