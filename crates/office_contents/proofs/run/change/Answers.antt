use Rattle.office_contents.proofs.Common.{rules, state, is_inside, goes_executed}
use Rattle.office_contents.proofs.run.change.Goals as goal

pub returns-in-Ok-clause-ran : goal.returns-in-Ok-clause-ran
returns-in-Ok-clause-ran g c clean = (c.in-Ok.ensures.runs clean (is_inside _ c.in-Ok.ensures.ended)).0

pub returns-in-Ok-clause-inside : goal.returns-in-Ok-clause-inside
returns-in-Ok-clause-inside g c = record {
  same_reference = search rules;
  stays = search rules;
  goes_on = λ clean. goes_executed _ _ (state g.S.Store c.args.tx.now.conn.now) (state g.S.Store c.execute.new.self.conn.now) c.in-Ok.count (c.in-Ok.ensures.runs clean (is_inside _ c.in-Ok.ensures.ended));
  failure = search rules;
}
