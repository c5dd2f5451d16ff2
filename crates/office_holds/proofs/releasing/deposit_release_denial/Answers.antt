use Rattle.office_holds.proofs.Lemmas.{rules, ◌≡◌, ◌∙◌, Some, ap, sym, IfOk-weaker, Store, clean_first, denial_at, release_denial_at, visit_on, office_still, there_is, told_before, tables_before}
use Rattle.office_core.specs.declared.action.Action.TheVariants as acts
use Rattle.office_holds.proofs.releasing.deposit_release_denial.Goals as goal

pub returns-clause-reads : goal.returns-clause-reads
returns-clause-reads g c clean office =
    let a = c.args in
    let visit = visit_on a.day a.caller.now in
    let early = clean_first c.denial.ensures.inside.stays clean in
    let same = c.in_ok-found.ensures.same early office in
    let row = c.in_ok-deposit.deposit in
    let there = there_is c.in_ok-found.found Store row c.in_ok-deposit.ensures ∙ c.in_ok-found.ensures.found early office in
    let collection : c.deref.result.now ≡ row.collection = search rules in
    let class : c.deref-2.result.now ≡ row.class = search rules in
    IfOk-weaker c.denial.result _ _ (λ why asked. (asked.0 ∙ same, ap (release_denial_at (tables_before g.S.Store a.tx.now.conn) visit) (sym there) ∙ told_before same (λ t. denial_at t visit acts.Release row ≡ Some why) (rw (collection, class) at asked.1)))
    (c.denial.ensures.reads clean (office_still same office))
