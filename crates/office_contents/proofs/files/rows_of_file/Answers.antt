use Rattle.office_contents.proofs.Lemmas.{pos, IfOk-weaker, finds_content}
use Rattle.office_contents.proofs.FileTexts.{file_meanings}
use Rattle.office_contents.proofs.Undone.{fails_in_store}
use Rattle.office_contents.proofs.files.rows_of_file.Goals as goal

pub returns-clause-found : goal.returns-clause-found
returns-clause-found g c clean office =
    let shown = rw (c.params-to_sql.ensures, c.params-to_sql-2.ensures) at (c.ask.ensures.shown clean) in
    IfOk-weaker c.ask.result _ _ (λ rows h. let it = finds_content _ _ (pos c.args.number) c.args.path.now rows.items office h in (it.0, it.1)) shown

pub returns-clause-reference : goal.returns-clause-reference
returns-clause-reference g c clean office =
    let shown = rw (c.params-to_sql.ensures, c.params-to_sql-2.ensures) at (c.ask.ensures.shown clean) in
    IfOk-weaker c.ask.result _ _ (λ rows h. (finds_content _ _ (pos c.args.number) c.args.path.now rows.items office h).2) shown

pub returns-clause-store : goal.returns-clause-store
returns-clause-store g c clean office =
    fails_in_store file_meanings.asks_content _ _ _ office c.ask.result c.ask.ensures.inside.failure (rw (c.params-to_sql.ensures, c.params-to_sql-2.ensures) at (c.ask.ensures.memory clean))
