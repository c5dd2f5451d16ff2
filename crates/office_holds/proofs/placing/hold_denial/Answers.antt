use Rattle.office_holds.proofs.Lemmas.{rules, ◌≡◌, ◌∙◌, None, held_deposit, visit_on, held_target, name_denied, tables_before}
use Rattle.office_holds.proofs.placing.hold_denial.Goals as goal

pub returns-in_ok-said-in-Collection-clause-reads : goal.returns-in_ok-said-in-Collection-clause-reads
returns-in_ok-said-in-Collection-clause-reads g c clean office =
    let a = c.args in
    let by_name : held_deposit (held_target a.target) ≡ None = search rules in
    let asked = c.in_ok-said-in-Collection.ensures.reads clean office in
    (asked.0, name_denied (tables_before g.S.Store a.tx.now.conn) (visit_on a.day a.caller.now) (held_target a.target) c.in_ok-said-in-Collection.said by_name asked.1 ∙ search rules)
