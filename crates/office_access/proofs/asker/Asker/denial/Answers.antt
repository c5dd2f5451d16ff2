use Rattle.office_access.proofs.Lemmas.{rules, option_copied, ◌∙◌, state, tables_of, role_name, denial_read}
use Rattle.office_access.proofs.asker.Asker.denial.Goals as goal

pub returns-in-Some-clause-reads : goal.returns-in-Some-clause-reads
returns-in-Some-clause-reads g c clean office =
    let a = c.args in
    let decided = c.in_ok-decision.ensures.reads clean office in
    let denied = denial_read (tables_of (state g.S.Store a.tx.now.conn.now).now) (role_name a.self.now) a.self.now.day a.action (option_copied a.collection) (option_copied a.class) c.in_ok-decision.field-0 decided.1 in
    (decided.0, denied ∙ (search rules))

pub returns-in-None-clause-reads : goal.returns-in-None-clause-reads
returns-in-None-clause-reads g c clean office =
    let a = c.args in
    let decided = c.in_ok-decision.ensures.reads clean office in
    let denied = denial_read (tables_of (state g.S.Store a.tx.now.conn.now).now) (role_name a.self.now) a.self.now.day a.action (option_copied a.collection) (option_copied a.class) c.in_ok-decision.field-0 decided.1 in
    (decided.0, denied ∙ (search rules))
