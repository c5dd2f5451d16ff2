use Rattle.office_holds.proofs.Lemmas.{rules, ◌≡◌, [], ◌∷◌, ◌∙◌, Some, None, ap, IfOk, result_err, IfOk-weaker, clean_first, full_of_holds, highest_hold, hold_denials, number_after, visit_on, held_target, one_first, office_still, told_before, full_first, tables_before}
use Rattle.office_holds.proofs.placing.number_for_hold.Goals as goal

pub returns-in-Some-clause-reads : goal.returns-in-Some-clause-reads
returns-in-Some-clause-reads g c clean office =
    let a = c.args in
    let t = tables_before g.S.Store a.tx.now.conn in
    let asked = c.in_ok-why.ensures.reads clean office in
    (asked.0, (one_first (hold_denials t (visit_on a.day a.caller.now) (held_target a.target)) (full_of_holds t ∷ []) c.in-Some.why (asked.1 ∙ ap Some c.in-Some.is), tt))

pub returns-clause-reads : goal.returns-clause-reads
returns-clause-reads g c clean office =
    let a = c.args in
    let asked = c.in_ok-why.ensures.reads (clean_first c.next_hold.ensures.inside.stays clean) office in
    let none : c.in_ok-why.field-0 ≡ None = search rules in
    IfOk-weaker c.next_hold.result _ _
    (λ numbered next.
    let told = told_before asked.0 (λ t. (full_of_holds t ≡ Some (result_err numbered)) × IfOk numbered (λ number. number_after (highest_hold t) ≡ Some number)) next.1 in
    (next.0 ∙ asked.0, (full_first (tables_before g.S.Store a.tx.now.conn) (visit_on a.day a.caller.now) (held_target a.target) (result_err numbered) (asked.1 ∙ ap Some none) told.0, told.1)))
    (c.next_hold.ensures.reads clean (office_still asked.0 office))
