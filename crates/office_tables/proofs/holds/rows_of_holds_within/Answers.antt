use Rattle.office_tables.proofs.Lemmas.{pos, IfOk-weaker, fails_in_store, lists_within}
use Rattle.office_tables.proofs.HoldTexts.{hold_meanings}
use Rattle.office_tables.proofs.holds.rows_of_holds_within.Goals as goal

pub returns-clause-found : goal.returns-clause-found
returns-clause-found g c clean office =
    IfOk-weaker c.ask.result _ _ (λ rows h. lists_within _ _ (pos c.args.deposit) c.args.collection.now rows.items office h) (rw (c.params-to_sql.ensures, c.params-to_sql-2.ensures) at (c.ask.ensures.shown clean))

pub returns-clause-store : goal.returns-clause-store
returns-clause-store g c clean office = fails_in_store hold_meanings.asks_within _ _ _ office c.ask.result c.ask.ensures.inside.failure (c.ask.ensures.memory clean)
