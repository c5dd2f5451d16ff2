use Rattle.office_engine.proofs.Common.{subst, HasCleanDisk, Survives, state, Item, CommitsRows, CommitsTo, IsTurn, after_item}
use Rattle.office_engine.proofs.office.Office.step.Goals as goal

pub returns : goal.returns
returns g c =
    let new = state g.S.Store c.transact.new.conn in
    let item : Item = (c.args.day, c.args.caller, c.args.request.now) in
    let turn = subst (λ x. HasCleanDisk new → IsTurn (state g.S.Store x) new item c.transact.result) c.self.view_is c.transact.ensures.turn in
    record {
      served = λ clean. (turn clean).served;
      kept = λ clean. (turn clean).kept;
      rows = λ clean. (turn clean).rows;
      shut = λ clean. (turn clean).shut;
      survives = subst (λ x. Survives (state g.S.Store x) new (CommitsTo (state g.S.Store x) (after_item item))) c.self.view_is c.transact.ensures.survives;
      durable = λ clean. (turn clean).durable;
      leaves = λ clean. (turn clean).leaves;
      made = λ clean. (turn clean).made;
      takes_rows_step = λ clean. (turn clean).takes_rows_step;
      survives_rows = subst (λ x. Survives (state g.S.Store x) new (CommitsRows (state g.S.Store x) item)) c.self.view_is c.transact.ensures.survives_rows;
      leaves_rows = λ clean. (turn clean).leaves_rows;
      durable_rows = λ clean. (turn clean).durable_rows;
    }
