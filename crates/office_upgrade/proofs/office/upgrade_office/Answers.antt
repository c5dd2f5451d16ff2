use Rattle.office_upgrade.proofs.Common.{rules, ◌≡◌, Err, IsTrue, ap, ◌∙◌, state}
use Rattle.office_upgrade.proofs.Again.{upgrades, takes_up, opens_older, lasts_found, leaves_office, keeps_office, goes_back, found_becomes, newest_survives, told_known, told_none, told_unknown}
use Rattle.office_upgrade.proofs.office.upgrade_office.Goals as goal

pub returns-in-Ok-clause-upgraded : goal.returns-in-Ok-clause-upgraded
returns-in-Ok-clause-upgraded g c clean =
    let before = state g.S.Store c.args.conn in
    let after = state g.S.Store c.upgrade.new.conn in
    let settled : IsTrue before.is_open → before.now ≡ before.committed = search rules in
    upgrades before after (c.in-Ok.ensures.was_open clean) settled (c.in-Ok.ensures.upgraded clean)

pub returns-in-Ok-clause-found : goal.returns-in-Ok-clause-found
returns-in-Ok-clause-found g c clean =
    let before = state g.S.Store c.args.conn in
    let after = state g.S.Store c.upgrade.new.conn in
    let settled : IsTrue before.is_open → before.now ≡ before.committed = search rules in
    takes_up before after (c.in-Ok.ensures.was_open clean) settled (c.in-Ok.ensures.upgraded clean) c.schema-schema.ensures.live

pub returns-in-Ok-clause-is_open : goal.returns-in-Ok-clause-is_open
returns-in-Ok-clause-is_open g c clean =
    opens_older (state g.S.Store c.args.conn) (state g.S.Store c.upgrade.new.conn) c.schema-schema.ensures.live (c.in-Ok.ensures.is_open clean)

pub returns-in-Ok-clause-newest_survives : goal.returns-in-Ok-clause-newest_survives
returns-in-Ok-clause-newest_survives g c =
    newest_survives (state g.S.Store c.args.conn) (state g.S.Store c.upgrade.new.conn) c.upgrade.ensures.survives

pub returns-in-Ok-clause-known_as_one : goal.returns-in-Ok-clause-known_as_one
returns-in-Ok-clause-known_as_one g c clean version office =
    let shown = (c.in-Ok.ensures.opened clean).1 in
    told_known version (state g.S.Store c.args.conn).now office shown.0 shown.1

pub returns-in-Ok-clause-durable : goal.returns-in-Ok-clause-durable
returns-in-Ok-clause-durable g c clean =
    let before = state g.S.Store c.args.conn in
    let after = state g.S.Store c.upgrade.new.conn in
    let outside : IsTrue before.is_open → before.now ≡ before.committed = search rules in
    lasts_found before after c.schema-schema.ensures.live outside (c.in-Ok.ensures.durable clean)

pub returns-in-Ok-clause-leaves : goal.returns-in-Ok-clause-leaves
returns-in-Ok-clause-leaves g c clean =
    leaves_office (state g.S.Store c.args.conn) (state g.S.Store c.upgrade.new.conn) c.schema-schema.ensures.live (search rules) c.upgrade.ensures.survives clean (λ db is_open left. g.met.S.Store.settled c.args.conn.store db is_open left)

pub returns-in-Err-clause-refused_leaves : goal.returns-in-Err-clause-refused_leaves
returns-in-Err-clause-refused_leaves g c clean =
    leaves_office (state g.S.Store c.args.conn) (state g.S.Store c.upgrade.new.conn) c.schema-schema.ensures.live (search rules) c.upgrade.ensures.survives clean (λ db is_open left. g.met.S.Store.settled c.args.conn.store db is_open left)

pub returns-in-Err-clause-refused_newest_survives : goal.returns-in-Err-clause-refused_newest_survives
returns-in-Err-clause-refused_newest_survives g c =
    newest_survives (state g.S.Store c.args.conn) (state g.S.Store c.upgrade.new.conn) c.upgrade.ensures.survives

pub returns-in-Err-clause-refused : goal.returns-in-Err-clause-refused
returns-in-Err-clause-refused g c clean =
    let before = state g.S.Store c.args.conn in
    let after = state g.S.Store c.upgrade.new.conn in
    keeps_office before after (c.in-Err.ensures.refused clean)

pub returns-in-Err-clause-goes_back : goal.returns-in-Err-clause-goes_back
returns-in-Err-clause-goes_back g c clean =
    let before = state g.S.Store c.args.conn in
    let after = state g.S.Store c.upgrade.new.conn in
    goes_back before after c.schema-schema.ensures.live (c.in-Err.ensures.refused clean)

pub returns-in-Err-clause-unknown : goal.returns-in-Err-clause-unknown
returns-in-Err-clause-unknown g c clean version office told =
    told_none version (state g.S.Store c.args.conn).now office (c.upgrade.ensures.not_office clean (c.in-Err.is ∙ ap Err told))

pub returns-in-Err-clause-known_as_other : goal.returns-in-Err-clause-known_as_other
returns-in-Err-clause-known_as_other g c clean version office told =
    told_unknown version (state g.S.Store c.args.conn).now office (c.upgrade.ensures.other_version clean (c.in-Err.is ∙ ap Err told))

pub returns-in-Err-clause-left_failure : goal.returns-in-Err-clause-left_failure
returns-in-Err-clause-left_failure g c clean was_open version rows told left =
    let before = state g.S.Store c.args.conn in
    c.in-Err.ensures.failure clean version rows (found_becomes version rows before c.schema-schema.ensures.live was_open left) told
