use Rattle.office_tables.proofs.Looking.{looks, shows_version}
use Rattle.office_tables.proofs.opening.version_told.Goals as goal

pub returns-clause-shown : goal.returns-clause-shown
returns-clause-shown g c clean =
    let it = looks _ _ c.in_ok-rows.rows.items (c.in_ok-rows.ensures.shown clean) in
    shows_version _ c.in_ok-rows.rows.items c.version_among.result it.0 (rw c.deref.ensures.value at c.version_among.ensures)

pub returns-clause-same : goal.returns-clause-same
returns-clause-same g c clean = (looks _ _ c.in_ok-rows.rows.items (c.in_ok-rows.ensures.shown clean)).1.0.now_is
