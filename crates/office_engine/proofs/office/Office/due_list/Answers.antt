use Rattle.office_engine.proofs.Common.{IfOk, subst, HasCleanDisk, state, AreToldDue}
use Rattle.office_engine.proofs.office.Office.due_list.Goals as goal

pub returns-clause-rows : goal.returns-clause-rows
returns-clause-rows g c =
    let new = state g.S.Store c.due_list.new.conn in
    subst (λ x. HasCleanDisk new → IfOk c.due_list.result (λ numbers. AreToldDue (state g.S.Store x) c.args.day c.args.caller.now numbers.items)) c.self.view_is c.due_list.ensures.rows
