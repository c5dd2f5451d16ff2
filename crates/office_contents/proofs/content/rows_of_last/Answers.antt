use Rattle.office_contents.proofs.Common.{IfOk-weaker}
use Rattle.office_contents.proofs.ContentLemmas.{finds_last}
use Rattle.office_contents.proofs.content.rows_of_last.Goals as goal

pub returns-clause-found : goal.returns-clause-found
returns-clause-found g c clean office =
    IfOk-weaker c.ask.result _ _ (λ rows h. finds_last _ _ rows.items office h) (c.ask.ensures.shown clean)
