use Rattle.office_engine.proofs.Lemmas.{state, upgrades, takes_up, lasts, opens_older, leaves, stays, goes_back, upgrade_survives, left_fails}
use Rattle.office_engine.proofs.office.Office.upgrade.Goals as goal

pub returns-in-Ok-clause-upgraded : goal.returns-in-Ok-clause-upgraded
returns-in-Ok-clause-upgraded g c clean = upgrades (state g.S.Store c.args.conn) (state g.S.Store c.in-Ok.conn) (c.in-Ok.ensures.was_open clean) (c.in-Ok.ensures.upgraded clean)

pub returns-in-Ok-clause-found : goal.returns-in-Ok-clause-found
returns-in-Ok-clause-found g c clean = takes_up (state g.S.Store c.args.conn) (state g.S.Store c.in-Ok.conn) (c.in-Ok.ensures.found clean)

pub returns-in-Ok-clause-durable : goal.returns-in-Ok-clause-durable
returns-in-Ok-clause-durable g c clean = lasts (state g.S.Store c.args.conn) (state g.S.Store c.in-Ok.conn) (c.in-Ok.ensures.durable clean)

pub returns-in-Ok-clause-is_open : goal.returns-in-Ok-clause-is_open
returns-in-Ok-clause-is_open g c clean = opens_older (state g.S.Store c.args.conn) (state g.S.Store c.in-Ok.conn) (c.in-Ok.ensures.is_open clean)

pub returns-in-Ok-clause-leaves : goal.returns-in-Ok-clause-leaves
returns-in-Ok-clause-leaves g c clean = leaves (state g.S.Store c.args.conn) (state g.S.Store c.in-Ok.conn) (c.in-Ok.ensures.leaves clean)

pub returns-in-Ok-clause-survives : goal.returns-in-Ok-clause-survives
returns-in-Ok-clause-survives g c = upgrade_survives (state g.S.Store c.args.conn) (state g.S.Store c.in-Ok.conn) c.in-Ok.ensures.survives

pub returns-in-Err-clause-refused : goal.returns-in-Err-clause-refused
returns-in-Err-clause-refused g c clean = stays (state g.S.Store c.args.conn) (state g.S.Store c.in-Err.handed_back.0) (c.in-Err.ensures.refused_same clean)

pub returns-in-Err-clause-goes_back : goal.returns-in-Err-clause-goes_back
returns-in-Err-clause-goes_back g c clean = goes_back (state g.S.Store c.args.conn) (state g.S.Store c.in-Err.handed_back.0) (c.in-Err.ensures.goes_back clean)

pub returns-in-Err-clause-refused_leaves : goal.returns-in-Err-clause-refused_leaves
returns-in-Err-clause-refused_leaves g c clean = leaves (state g.S.Store c.args.conn) (state g.S.Store c.in-Err.handed_back.0) (c.in-Err.ensures.refused_leaves clean)

pub returns-in-Err-clause-refused_survives : goal.returns-in-Err-clause-refused_survives
returns-in-Err-clause-refused_survives g c = upgrade_survives (state g.S.Store c.args.conn) (state g.S.Store c.in-Err.handed_back.0) c.in-Err.ensures.refused_survives

pub returns-in-Err-clause-known : goal.returns-in-Err-clause-known
returns-in-Err-clause-known g c clean was_open version h legal left = left_fails c.in-Err.handed_back.1 (state g.S.Store c.args.conn) (c.in-Err.ensures.left_failure clean was_open) version h legal left

pub returns-in-Ok-clause-durable_rows : goal.returns-in-Ok-clause-durable_rows
returns-in-Ok-clause-durable_rows g c clean = c.in-Ok.ensures.durable clean

pub returns-in-Err-clause-left_failure : goal.returns-in-Err-clause-left_failure
returns-in-Err-clause-left_failure g c clean = c.in-Err.ensures.left_failure clean

pub returns-in-Ok-clause-is_open_rows : goal.returns-in-Ok-clause-is_open_rows
returns-in-Ok-clause-is_open_rows g c clean = c.in-Ok.ensures.is_open clean

pub returns-in-Ok-clause-leaves_rows : goal.returns-in-Ok-clause-leaves_rows
returns-in-Ok-clause-leaves_rows g c clean = c.in-Ok.ensures.leaves clean

pub returns-in-Err-clause-goes_back_rows : goal.returns-in-Err-clause-goes_back_rows
returns-in-Err-clause-goes_back_rows g c clean = c.in-Err.ensures.goes_back clean

pub returns-in-Err-clause-refused_leaves_rows : goal.returns-in-Err-clause-refused_leaves_rows
returns-in-Err-clause-refused_leaves_rows g c clean = c.in-Err.ensures.refused_leaves clean
