use Rattle.office_engine.proofs.Common.{OnOk, subst, HasCleanDisk, state, InstalledRowsLast, InstallsRows, LeavesEither, LeavesInstalled, LeavesInstalledRows, after_policy}
use Rattle.office_engine.proofs.office.Office.install.Goals as goal

pub returns-clause-leaves : goal.returns-clause-leaves
returns-clause-leaves g c =
    let new = state g.S.Store c.install.new.conn in
    subst (λ x. HasCleanDisk new → LeavesEither (state g.S.Store x) new (after_policy c.args.policy.now)) c.self.view_is c.install.ensures.leaves

pub returns-clause-made : goal.returns-clause-made
returns-clause-made g c =
    let new = state g.S.Store c.install.new.conn in
    subst (λ x. HasCleanDisk new → LeavesInstalled (state g.S.Store x) new c.install.result) c.self.view_is c.install.ensures.made

pub returns-clause-leaves_rows : goal.returns-clause-leaves_rows
returns-clause-leaves_rows g c =
    let new = state g.S.Store c.install.new.conn in
    subst (λ x. HasCleanDisk new → LeavesInstalledRows (state g.S.Store x) new c.args.policy.now) c.self.view_is c.install.ensures.leaves_rows

pub returns-clause-installed_rows : goal.returns-clause-installed_rows
returns-clause-installed_rows g c =
    let new = state g.S.Store c.install.new.conn in
    subst (λ x. HasCleanDisk new → OnOk c.install.result (InstallsRows (state g.S.Store x) new c.args.policy.now)) c.self.view_is c.install.ensures.installed_rows

pub returns-clause-durable_rows : goal.returns-clause-durable_rows
returns-clause-durable_rows g c =
    let new = state g.S.Store c.install.new.conn in
    subst (λ x. HasCleanDisk new → OnOk c.install.result (InstalledRowsLast (state g.S.Store x) new c.args.policy.now)) c.self.view_is c.install.ensures.durable_rows
