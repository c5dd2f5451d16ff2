use Rattle.office_holds.proofs.Lemmas.{◌≡◌, ◌∙◌, ap, subst, pos, refl, Some, IfOk, result_err, Tables, with_hold, clean_first, allowed_rows, counted_over, new_hold, highest_hold, number_after, visit_on, held_target, office_still, allowed_by, changed_after, changed_as, refused_by, hold_request, hold_answered, hold_refused, hold_rows, tables_before}
use Rattle.office_core.specs.declared.answer.Answer.TheVariants as answers
use Rattle.office_holds.proofs.placing.hold.Goals as goal

pub returns-in_ok-place_hold-in-Ok-clause-serves : goal.returns-in_ok-place_hold-in-Ok-clause-serves
returns-in_ok-place_hold-in-Ok-clause-serves g c clean office =
    let a = c.args in
    let t = tables_before g.S.Store a.tx.now.conn in
    let visit = visit_on a.day a.caller.now in
    let target = held_target a.target in
    let request = hold_request target a.matter.now in
    let early = clean_first c.place_hold.ensures.inside.stays clean in
    let asked = c.in_ok-hold.ensures.reads early office in
    let next = subst (λ r. IfOk r (λ number. number_after (highest_hold t) ≡ Some number)) c.in-Ok.is asked.1.1 in
    let write = λ (t : Tables). counted_over target (pos 1) (with_hold (new_hold c.in-Ok.hold target a.matter.now a.day) t) in
    let placed = changed_after write asked.0 (c.in_ok-place_hold-in-Ok.ensures.changes clean (office_still asked.0 office)) in
    allowed_by visit request (answers.HoldPlaced c.in-Ok.hold) refl refl (hold_refused t visit target a.matter.now ∙ asked.1.0 ∙ ap (λ r. Some (result_err r)) c.in-Ok.is) (hold_answered t visit target a.matter.now c.in-Ok.hold next)
    (changed_as write (λ t. allowed_rows t visit request) (hold_rows t visit target a.matter.now c.in-Ok.hold next) placed)

pub returns-in-Err-clause-serves : goal.returns-in-Err-clause-serves
returns-in-Err-clause-serves g c clean office =
    let a = c.args in
    let visit = visit_on a.day a.caller.now in
    let target = held_target a.target in
    let asked = c.in_ok-hold.ensures.reads clean office in
    refused_by visit (hold_request target a.matter.now) c.in-Err.why office asked.0 (hold_refused (tables_before g.S.Store a.tx.now.conn) visit target a.matter.now ∙ asked.1.0 ∙ ap (λ r. Some (result_err r)) c.in-Err.is)
