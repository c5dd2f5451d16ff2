use Rattle.office_engine.proofs.Common.{IfOk, subst, HasCleanDisk, state, IsToldStock}
use Rattle.office_engine.proofs.office.Office.stock.Goals as goal

pub returns-clause-rows : goal.returns-clause-rows
returns-clause-rows g c =
    let new = state g.S.Store c.stock.new.conn in
    subst (λ x. HasCleanDisk new → IfOk c.stock.result (λ found. IsToldStock (state g.S.Store x) found)) c.self.view_is c.stock.ensures.rows
