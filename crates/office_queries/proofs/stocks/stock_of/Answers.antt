use Rattle.office_queries.proofs.Lemmas.{◌≡◌, None, Some, map, sym, ap, subst, ◌∙◌, IfErr-weaker, IfOk-weaker, state, HasCleanDisk, contents_of, int_at, IsOffice, Row, stock_in, sizes_told}
use Rattle.std.specs.Prelude.{Result, Ok, Err, IfOk, IfErr, IsErrAnd}
use Rattle.office_by_rows.specs.Stock.{stock_by}
use Rattle.office_contents.specs.Calls.{IsOfStore}
use Rattle.office_queries.proofs.stocks.stock_of.Given.{Over}
use Rattle.office_queries.proofs.stocks.stock_of.Goals as goal

-- a call whose answer can't be fails so
refuses : {T E : Type 0} (P : T → Type 0) (Q : E → Type 0) (result : Result T E) → ((value : T) → P value → ⊥) → IfOk result P → IfErr result Q → IsErrAnd result Q
refuses P Q (Ok value) never told fails = absurd (never value told)
refuses P Q (Err fault) never told fails = fails

-- the rows tell the stock of the contents, and nothing has changed
shown : (g : Over) (c : goal.After-drop-rows g) → HasCleanDisk (state g.S.Store c.rows_of_contents.new.tx.conn.now) → IsOffice (state g.S.Store c.args.tx.now.conn.now).now
    → ((state g.S.Store c.rows_of_contents.new.tx.conn.now).now ≡ (state g.S.Store c.args.tx.now.conn.now).now) × (stock_by (contents_of (state g.S.Store c.args.tx.now.conn.now).now) ≡ stock_in (map (λ (row : Row). int_at row 1) c.deref.result.now))
shown g c clean office =
    let found = c.in_ok-rows.ensures.found clean office in
    (found.0, ap stock_in (sizes_told (state g.S.Store c.args.tx.now.conn.now).now c.in_ok-rows.rows.items found.1) ∙ ap (λ rows. stock_in (map (λ (row : Row). int_at row 1) rows)) (sym c.deref.ensures.value))

pub returns-clause-reads : goal.returns-clause-reads
returns-clause-reads g c clean office =
    let it = shown g c clean office in
    IfOk-weaker c.stock_in.result _ _ (λ stock told. (it.0, it.1 ∙ told)) c.stock_in.ensures.told

pub returns-clause-store : goal.returns-clause-store
returns-clause-store g c clean office none =
    let it = shown g c clean office in
    let new = c.rows_of_contents.new.tx.conn.now in
    refuses _ (IsOfStore g.S.Store new) c.stock_in.result (λ stock told. let never : None ≡ Some stock = sym none ∙ it.1 ∙ told in cc) c.stock_in.ensures.told (IfErr-weaker c.stock_in.result _ _ (λ fault is. subst (IsOfStore g.S.Store new) (sym is) tt) c.stock_in.ensures.store)
