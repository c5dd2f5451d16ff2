use Rattle.office_holds.proofs.Lemmas.{rules, ◌≡◌, sym, ◌∙◌, Some, None, ap, result_err, IfOk-weaker, clean_first, release_denial_on, visit_on, held_target, office_still, told_before, no_hold, release_refused, tables_before}
use Rattle.office_holds.proofs.releasing.releasable_hold.Goals as goal

pub returns-in_default-clause-reads : goal.returns-in_default-clause-reads
returns-in_default-clause-reads g c clean office =
    let a = c.args in
    let none : None ≡ c.in_ok-hold.field-0 = search rules in
    (c.in_ok-hold.ensures.same clean office, (no_hold (tables_before g.S.Store a.tx.now.conn) (visit_on a.day a.caller.now) a.number (sym (none ∙ c.in_ok-hold.ensures.found clean office)), tt))

pub returns-clause-reads : goal.returns-clause-reads
returns-clause-reads g c clean office =
    let a = c.args in
    let visit = visit_on a.day a.caller.now in
    let early = clean_first c.release_denial.ensures.inside.stays clean in
    let same = c.in_ok-hold.ensures.same early office in
    let there = sym (c.in_ok-hold.ensures.found early office) ∙ c.in-Some.is in
    let target = held_target c.in_ok-target.target in
    let denied = c.in_ok-denied.ensures.reads clean (office_still same office) in
    let denial = told_before same (λ t. release_denial_on t visit target ≡ Some c.in_ok-denied.denied) denied.1 in
    IfOk-weaker c.unless_refused.result _ _
    (λ found first.
    let refused = release_refused (tables_before g.S.Store a.tx.now.conn) visit a.number c.in-Some.hold target there c.in_ok-target.ensures.reads c.in_ok-denied.denied (result_err found) denial first.0 in
    (denied.0 ∙ same, (refused, IfOk-weaker found _ _ (λ row is. there ∙ ap Some (sym is)) first.1)))
    c.unless_refused.ensures.reads
