use Rattle.office_holds.proofs.Lemmas.{◌≡◌, negsuc, refl, subst, ◌∙◌, ap, pos, Some, IfOk, result_err, epoch_day, Tables, hold_numbered, with_released, clean_first, allowed_rows, counted_over, visit_on, held_target, office_still, allowed_by, changed_after, changed_as, refused_by, released_rows, tables_before}
use Rattle.office_core.specs.declared.answer.Answer.TheVariants as answers
use Rattle.office_core.specs.declared.request.Request.TheVariants as requests
use Rattle.office_holds.proofs.releasing.release.Goals as goal

pub returns-in-Err-clause-serves : goal.returns-in-Err-clause-serves
returns-in-Err-clause-serves g c clean office =
    let a = c.args in
    let asked = c.in_ok-row.ensures.reads clean office in
    refused_by (visit_on a.day a.caller.now) (requests.Release a.hold) c.in-Err.why office asked.0 (asked.1.0 ∙ ap (λ r. Some (result_err r)) c.in-Err.is)

pub returns-in_ok-end-in-Ok-clause-serves : goal.returns-in_ok-end-in-Ok-clause-serves
returns-in_ok-end-in-Ok-clause-serves g c clean office =
    let a = c.args in
    let t = tables_before g.S.Store a.tx.now.conn in
    let visit = visit_on a.day a.caller.now in
    let early = clean_first c.end.ensures.inside.stays clean in
    let asked = c.in_ok-row.ensures.reads early office in
    let there = subst (λ r. IfOk r (λ row. hold_numbered (pos a.hold) t.holds ≡ Some row)) c.in-Ok.is asked.1.1 in
    let target = held_target c.in_ok-target-in-Ok.target in
    let write = λ (t : Tables). counted_over target (negsuc 0) (with_released (pos a.hold) (epoch_day a.day) t) in
    let ended = changed_after write asked.0 (c.in_ok-end-in-Ok.ensures.changes clean (office_still asked.0 office)) in
    allowed_by visit (requests.Release a.hold) (answers.HoldReleased a.hold a.day) refl refl (asked.1.0 ∙ ap (λ r. Some (result_err r)) c.in-Ok.is) refl
    (changed_as write (λ t. allowed_rows t visit (requests.Release a.hold)) (released_rows t visit a.hold c.in-Ok.row target there c.in_ok-target-in-Ok.ensures.reads) ended)
