use Rattle.office_engine.proofs.Lemmas.{state, new_survives}
use Rattle.office_engine.proofs.office.Office.create.Goals as goal

pub returns-in-Ok-clause-survives : goal.returns-in-Ok-clause-survives
returns-in-Ok-clause-survives g c =
    new_survives c.args.limits.deposits c.args.limits.holds (state g.S.Store c.args.conn) (state g.S.Store c.create.new.conn) c.create.ensures.survives

pub returns-in-Err-clause-refused_survives : goal.returns-in-Err-clause-refused_survives
returns-in-Err-clause-refused_survives g c =
    new_survives c.args.limits.deposits c.args.limits.holds (state g.S.Store c.args.conn) (state g.S.Store c.create.new.conn) c.create.ensures.survives
