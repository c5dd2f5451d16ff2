use Rattle.office_contents.proofs.Lemmas.{w64, to_z-of_z, IfOk-weaker, finds_marked}
use Rattle.office_contents.proofs.ContentTexts.{content_meanings}
use Rattle.office_contents.proofs.Undone.{fails_in_store}
use Rattle.office_contents.proofs.content.rows_of_content.Goals as goal

pub returns-clause-found : goal.returns-clause-found
returns-clause-found g c clean office =
    IfOk-weaker c.ask.result _ _ (λ rows h. finds_marked _ _ c.args.id rows.items office h) (rw (c.params-to_sql.ensures, to_z-of_z w64 c.args.id c.ranges.id) at (c.ask.ensures.shown clean))

pub returns-clause-store : goal.returns-clause-store
returns-clause-store g c clean office =
    fails_in_store content_meanings.asks_content _ _ _ office c.ask.result c.ask.ensures.inside.failure (rw (c.params-to_sql.ensures, to_z-of_z w64 c.args.id c.ranges.id) at (c.ask.ensures.memory clean))
