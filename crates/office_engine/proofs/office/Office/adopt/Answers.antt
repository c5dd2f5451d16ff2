use Rattle.office_engine.proofs.Lemmas.{state, this_version, picture, history_goes_on, known_version, rows_left}
use Rattle.office_engine.proofs.office.Office.adopt.Goals as goal

pub returns-in-Ok-clause-goes_on : goal.returns-in-Ok-clause-goes_on
returns-in-Ok-clause-goes_on g c clean = history_goes_on (state g.S.Store c.args.conn) (state g.S.Store c.in-Ok.conn) (c.in-Ok.ensures.found clean)

pub returns-in-Err-clause-goes_back : goal.returns-in-Err-clause-goes_back
returns-in-Err-clause-goes_back g c clean = history_goes_on (state g.S.Store c.args.conn) (state g.S.Store c.in-Err.refused.0) (c.in-Err.ensures.refused clean)

pub returns-in-Err-clause-known : goal.returns-in-Err-clause-known
returns-in-Err-clause-known g c clean is_open h legal left =
    c.in-Err.ensures.failure clean is_open (picture this_version h) (rows_left h (state g.S.Store c.args.conn).now.trees left) (known_version h legal)
