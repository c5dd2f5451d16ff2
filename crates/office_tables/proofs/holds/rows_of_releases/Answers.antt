use Rattle.office_tables.proofs.Lemmas.{pos, w64, to_z-of_z, IfOk-weaker, some_in_store, tells_outside}
use Rattle.office_tables.proofs.Common.{column, Int, Text, holds_class, holds_collection, holds_deposit}
use Rattle.office_tables.proofs.HoldLemmas.{deposit_is, text_is}
use Rattle.office_tables.proofs.HoldTexts.{hold_meanings}
use Rattle.office_tables.proofs.holds.rows_of_releases.Goals as goal

pub returns-in-Deposit-clause-found : goal.returns-in-Deposit-clause-found
returns-in-Deposit-clause-found g c clean office =
    rw c.in-Deposit.is (IfOk-weaker c.ask.result _ _ (λ rows h. tells_outside _ _ _ 2 hold_meanings.asks_outside_on (Int (pos c.in-Deposit.number)) c.args.first c.args.last rows.items office h (holds_deposit (pos c.in-Deposit.number)) (λ r it. deposit_is (column r 2) (pos c.in-Deposit.number) it.0))
    (rw (c.params-to_sql.ensures, c.params-to_sql-in-Deposit.ensures, c.params-to_sql-in-Deposit-2.ensures, to_z-of_z w64 c.args.first c.ranges.first, to_z-of_z w64 c.args.last c.ranges.last) at (c.ask.ensures.shown clean)))

pub returns-in-Deposit-clause-store : goal.returns-in-Deposit-clause-store
returns-in-Deposit-clause-store g c clean office = some_in_store hold_meanings.asks_outside_on _ _ _ office c.ask.result c.ask.ensures.inside.failure (c.ask.ensures.memory clean)

pub returns-in-Collection-clause-found : goal.returns-in-Collection-clause-found
returns-in-Collection-clause-found g c clean office =
    rw c.in-Collection.is (IfOk-weaker c.ask-in-Collection.result _ _ (λ rows h. tells_outside _ _ _ 3 hold_meanings.asks_outside_within (Text c.in-Collection.name.now) c.args.first c.args.last rows.items office h (holds_collection c.in-Collection.name.now) (λ r it. text_is (column r 3) c.in-Collection.name.now it.1))
    (rw (c.params-to_sql-in-Collection.ensures, c.params-to_sql-in-Collection-2.ensures, c.params-to_sql-in-Collection-3.ensures, to_z-of_z w64 c.args.first c.ranges.first, to_z-of_z w64 c.args.last c.ranges.last) at (c.ask-in-Collection.ensures.shown clean)))

pub returns-in-Collection-clause-store : goal.returns-in-Collection-clause-store
returns-in-Collection-clause-store g c clean office = some_in_store hold_meanings.asks_outside_within _ _ _ office c.ask-in-Collection.result c.ask-in-Collection.ensures.inside.failure (c.ask-in-Collection.ensures.memory clean)

pub returns-in-Class-clause-found : goal.returns-in-Class-clause-found
returns-in-Class-clause-found g c clean office =
    rw c.in-Class.is (IfOk-weaker c.ask-in-Class.result _ _ (λ rows h. tells_outside _ _ _ 4 hold_meanings.asks_outside_of_class (Text c.in-Class.name.now) c.args.first c.args.last rows.items office h (holds_class c.in-Class.name.now) (λ r it. text_is (column r 4) c.in-Class.name.now it.2))
    (rw (c.params-to_sql-in-Class.ensures, c.params-to_sql-in-Class-2.ensures, c.params-to_sql-in-Class-3.ensures, to_z-of_z w64 c.args.first c.ranges.first, to_z-of_z w64 c.args.last c.ranges.last) at (c.ask-in-Class.ensures.shown clean)))

pub returns-in-Class-clause-store : goal.returns-in-Class-clause-store
returns-in-Class-clause-store g c clean office = some_in_store hold_meanings.asks_outside_of_class _ _ _ office c.ask-in-Class.result c.ask-in-Class.ensures.inside.failure (c.ask-in-Class.ensures.memory clean)
