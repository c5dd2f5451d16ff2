use Rattle.office_contents.proofs.Lemmas.{IfOk-weaker, lists_contents}
use Rattle.office_contents.proofs.ContentTexts.{content_meanings}
use Rattle.office_contents.proofs.Undone.{fails_in_store}
use Rattle.office_contents.proofs.content.rows_of_contents.Goals as goal

pub returns-clause-found : goal.returns-clause-found
returns-clause-found g c clean office =
    IfOk-weaker c.ask.result _ _ (λ rows h. lists_contents _ _ rows.items office h) (c.ask.ensures.shown clean)

pub returns-clause-store : goal.returns-clause-store
returns-clause-store g c clean office =
    fails_in_store content_meanings.asks_contents _ _ _ office c.ask.result c.ask.ensures.inside.failure (c.ask.ensures.memory clean)
