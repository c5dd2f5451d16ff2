use Rattle.office_deposits.proofs.Common.{rules, ◌≡◌, refl, ap, ◌∙◌, Some, None, visit_on, clean_first, office_still, allowed_by, refused_by}
use Rattle.office_core.specs.declared.answer.Answer.TheVariants as answers
use Rattle.office_core.specs.declared.request.Request.TheVariants as requests
use Rattle.office_deposits.proofs.disposing.dispose.Goals as goal

pub returns-in-Some-clause-serves : goal.returns-in-Some-clause-serves
returns-in-Some-clause-serves g c clean office =
    let a = c.args in
    let asked = c.in_ok-why.ensures.reads clean office in
    refused_by (visit_on a.day a.caller.now) (requests.Dispose a.number) c.in-Some.why office asked.0 (asked.1 ∙ ap Some c.in-Some.is)

pub returns-clause-serves : goal.returns-clause-serves
returns-clause-serves g c clean office =
    let a = c.args in
    let asked = c.in_ok-why.ensures.reads (clean_first c.destroy.ensures.inside.stays clean) office in
    let none : c.in_ok-why.field-0 ≡ None = search rules in
    allowed_by (visit_on a.day a.caller.now) (requests.Dispose a.number) (answers.Destroyed a.number a.day) refl asked.0 (asked.1 ∙ ap Some none) refl (c.in_ok-destroy.ensures.changes clean (office_still asked.0 office))
