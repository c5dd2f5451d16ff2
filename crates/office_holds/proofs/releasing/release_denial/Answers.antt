use Rattle.office_holds.proofs.Lemmas.{rules, ◌≡◌, ◌∙◌, ap, sym, Some, None, Store, held_deposit, visit_on, there_told, held_target, name_released, tables_before}
use Rattle.office_holds.proofs.releasing.release_denial.Goals as goal

pub returns-in_ok-said-in-Collection-clause-reads : goal.returns-in_ok-said-in-Collection-clause-reads
returns-in_ok-said-in-Collection-clause-reads g c clean office =
    let a = c.args in
    let said = c.in_ok-said-in-Collection.said in
    let by_name : held_deposit (held_target a.target) ≡ None = search rules in
    let asked = c.in_ok-said-in-Collection.ensures.reads clean office in
    there_told said Store c.there.result c.there.ensures (λ why is. (asked.0, name_released (tables_before g.S.Store a.tx.now.conn) (visit_on a.day a.caller.now) (held_target a.target) why by_name (asked.1 ∙ ap Some (sym is))))
