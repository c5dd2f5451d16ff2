use Rattle.office_contents.proofs.Common.{rules, state, stays_shown, stays_failed, goes_shown}
use Rattle.office_contents.proofs.run.ask.Goals as goal

pub returns-in-Err-clause-inside : goal.returns-in-Err-clause-inside
returns-in-Err-clause-inside g c = record {
  same_reference = search rules;
  stays = stays_failed _ _ (state g.S.Store c.args.tx.now.conn.now) (state g.S.Store c.query_all.new.self.conn.now) c.in-Err.error c.in-Err.ensures.survives c.in-Err.ensures.err;
  goes_on = search rules;
  failure = search rules;
}

pub returns-in-Ok-clause-inside : goal.returns-in-Ok-clause-inside
returns-in-Ok-clause-inside g c = record {
  same_reference = search rules;
  stays = stays_shown _ _ (state g.S.Store c.args.tx.now.conn.now) (state g.S.Store c.query_all.new.self.conn.now) c.in-Ok.rows.items c.in-Ok.ensures.survives c.in-Ok.ensures.ok;
  goes_on = λ clean. goes_shown _ _ (state g.S.Store c.args.tx.now.conn.now) (state g.S.Store c.query_all.new.self.conn.now) c.in-Ok.rows.items (c.in-Ok.ensures.ok clean);
  failure = search rules;
}
