use Rattle.office_engine.proofs.Lemmas.{◌≡◌, ◌∙◌, not, true, ap, subst, sym, arith, rules, IfOk-weaker, HasCleanDisk, state, Pictures, Finds, found_kept, under, stock_is}
use Rattle.office_history.specs.Stocks.{stock}
use Rattle.office_engine.proofs.listing.stock.Goals as goal

pub returns-clause-counted : goal.returns-clause-counted
returns-clause-counted g c =
    let first = c.args.conn.now in
    let last = c.stock_of-found.new.tx.conn.now in
    let end = c.rollback.new.self.0 in
    let begun = c.transaction-tx.ensures.begun in
    let same : end ≡ c.conn-1.given.0 = search rules in
    let settled = c.is_autocommit-is_settled.ensures.settled (c.is_autocommit-is_settled.ensures.value ∙ ap not c.requires.outside) in
    let now = (state g.S.Store first).now in
    let shown = rw begun at c.stock_of-found.ensures.reads in
    let finds : Finds g.S.Store (record first { in_transaction = true }) last c.stock_of-found.result (λ h found. found ≡ stock h) = λ clean h legal pictured.
    IfOk-weaker c.stock_of-found.result _ _ (λ found told.
    (subst (Pictures h) (sym told.0) pictured, stock_is h now pictured (c.contents_are_those_of_files.ensures now pictured.office pictured.once) found told.1)) (shown clean pictured.office) in
    rw (← same) (λ (late : HasCleanDisk (state g.S.Store end)).
    let early : HasCleanDisk (state g.S.Store last) = omega (arith, late, c.rollback.ensures.survives.clean) in
    found_kept g.S.Store first last end (λ h found. found ≡ stock h) settled (rw begun at c.stock_of-found.ensures.inside.stays) c.stock_of-found.result
    (rw begun at c.stock_of-found.ensures.inside.goes_on) finds early (c.rollback.ensures.undone late))

pub returns-clause-rows : goal.returns-clause-rows
returns-clause-rows g c =
    let last = c.stock_of-found.new.tx.conn.now in
    let end = c.rollback.new.self.0 in
    let begun = c.transaction-tx.ensures.begun in
    let same : end ≡ c.conn-1.given.0 = search rules in
    rw (← same) (λ (late : HasCleanDisk (state g.S.Store end)).
    let early : HasCleanDisk (state g.S.Store last) = omega (arith, late, c.rollback.ensures.survives.clean) in
    let shown = rw begun at c.stock_of-found.ensures.reads in
    under _ c.stock_of-found.result (λ office. IfOk-weaker c.stock_of-found.result _ _ (λ found told. told.1) (shown early office)))
