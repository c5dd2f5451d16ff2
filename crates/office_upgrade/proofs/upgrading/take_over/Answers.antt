use Rattle.office_upgrade.proofs.Common.{rules, ◌≡◌, ◌≢◌, ℤ, Some, w64, sym, subst, ◌∙◌, OnOk, state, HasVersion, AllRows, BecomesAt, renewed, version_number, TableVersion, Newest, clean_first, tells_version}
use Rattle.std.proofs.lemmas.Int.{to_z-of_z}
use Rattle.std.proofs.lemmas.Result.{on_ok_weaker}
use Rattle.office_upgrade.proofs.Ending.{is_renewed, seen_first}
use Rattle.office_upgrade.proofs.upgrading.take_over.Goals as goal

pub returns-in-Some-clause-renewed : goal.returns-in-Some-clause-renewed
returns-in-Some-clause-renewed g c clean =
    let old = state g.S.Store c.args.tx.now.conn.now in
    let mid = state g.S.Store c.version_told.new.tx.conn.now in
    let new = state g.S.Store c.renew.new.tx.conn.now in
    let shown = seen_first g.S.Store c.version_told.new.tx.conn.now c.renew.new.tx.conn.now (state g.S.Store c.args.tx.now.conn.now).now _ c.in-Some.version c.in_ok-version.ensures.shown c.in-Some.is c.renew.ensures.stays clean in
    let whole = to_z-of_z w64 c.in-Some.version (search rules) in
    let makes : OnOk c.renew.result ((known : TableVersion) (rows : AllRows) → c.in-Some.version ≡ version_number known → BecomesAt known mid.now rows → BecomesAt Newest new.now (renewed known rows)) = rw whole at (c.renew.ensures.renewed clean) in
    on_ok_weaker c.renew.result (λ made. is_renewed c.in-Some.version old.now mid.now new.now shown (c.in_ok-version.ensures.same (clean_first c.renew.ensures.stays clean)) made) makes

pub returns-in-Some-clause-older : goal.returns-in-Some-clause-older
returns-in-Some-clause-older g c clean made office told =
    let shown = seen_first g.S.Store c.version_told.new.tx.conn.now c.renew.new.tx.conn.now (state g.S.Store c.args.tx.now.conn.now).now _ c.in-Some.version c.in_ok-version.ensures.shown c.in-Some.is c.renew.ensures.stays clean in
    let apart : c.in-Some.version ≢ version_number Newest = rw (to_z-of_z w64 c.in-Some.version (search rules)) at (c.renew.ensures.older made) in
    let seen : Some c.in-Some.version ≡ Some (version_number Newest) = sym (tells_version Newest (state g.S.Store c.args.tx.now.conn.now).now office.whole (Some c.in-Some.version) shown) ∙ told in
    apart cc

pub returns-in-Some-clause-newest : goal.returns-in-Some-clause-newest
returns-in-Some-clause-newest g c clean made =
    let shown = seen_first g.S.Store c.version_told.new.tx.conn.now c.renew.new.tx.conn.now (state g.S.Store c.args.tx.now.conn.now).now _ c.in-Some.version c.in_ok-version.ensures.shown c.in-Some.is c.renew.ensures.stays clean in
    let is : c.in-Some.version ≡ version_number Newest = rw (to_z-of_z w64 c.in-Some.version (search rules)) at (c.renew.ensures.newest made).0 in
    subst (λ (v : ℤ). HasVersion (state g.S.Store c.args.tx.now.conn.now).now v) is shown

pub returns-in-Some-clause-was_older : goal.returns-in-Some-clause-was_older
returns-in-Some-clause-was_older g c clean made =
    let shown = seen_first g.S.Store c.version_told.new.tx.conn.now c.renew.new.tx.conn.now (state g.S.Store c.args.tx.now.conn.now).now _ c.in-Some.version c.in_ok-version.ensures.shown c.in-Some.is c.renew.ensures.stays clean in
    let whole = to_z-of_z w64 c.in-Some.version (search rules) in
    let apart : c.in-Some.version ≢ version_number Newest = rw whole at (c.renew.ensures.older made) in
    let known : OnOk c.renew.result ((version : TableVersion) × (c.in-Some.version ≡ version_number version)) = rw whole at c.renew.ensures.known in
    let it : (version : TableVersion) × (c.in-Some.version ≡ version_number version) = subst (λ r. OnOk r ((version : TableVersion) × (c.in-Some.version ≡ version_number version))) made known in
    (it.0, (λ same. apart (it.1 ∙ same)), subst (λ (v : ℤ). HasVersion (state g.S.Store c.args.tx.now.conn.now).now v) it.1 shown)
