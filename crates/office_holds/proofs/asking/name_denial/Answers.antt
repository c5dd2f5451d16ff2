use Rattle.office_holds.proofs.Lemmas.{rules, ◌≡◌, true, false, ◌∙◌, Some, clean_first, visit_on, held_target, office_still, told_before, denial_of_name, no_name, of_name, tables_before}
use Rattle.office_holds.proofs.asking.name_denial.Goals as goal

pub returns-then-not-branch-clause-reads : goal.returns-then-not-branch-clause-reads
returns-then-not-branch-clause-reads g c clean office =
    let a = c.args in
    let none : false ≡ c.in_ok-is_there.field-0 = search rules in
    let there = c.in_ok-is_there.ensures.reads clean office in
    (there.0, no_name (tables_before g.S.Store a.tx.now.conn) (visit_on a.day a.caller.now) a.action (held_target a.target) (none ∙ there.1))

pub returns-clause-reads : goal.returns-clause-reads
returns-clause-reads g c clean office =
    let a = c.args in
    let t = tables_before g.S.Store a.tx.now.conn in
    let visit = visit_on a.day a.caller.now in
    let early = clean_first c.denial.ensures.inside.stays clean in
    let there = c.in_ok-is_there.ensures.reads early office in
    let some : true ≡ c.in_ok-is_there.field-0 = search rules in
    let asked = c.in_ok-why.ensures.reads clean (office_still there.0 office) in
    let said = told_before there.0 (λ t. denial_of_name t visit a.action (held_target a.target) ≡ Some c.in_ok-why.why) (rw (c.names_of.ensures.collection, c.names_of.ensures.class) at asked.1) in
    (asked.0 ∙ there.0, of_name t visit a.action (held_target a.target) c.in_ok-why.why (some ∙ there.1) said)
