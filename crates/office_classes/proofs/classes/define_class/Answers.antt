use Rattle.office_classes.proofs.Common.{rules, ◌≡◌, ap, sym, Some, None, ◌∷◌, [], refl, clean_first, first_told, visit_on, office_still, allowed_by, refused_by}
use Rattle.office_core.specs.declared.request.Request.TheVariants as requests
use Rattle.office_core.specs.declared.answer.Answer.TheVariants as answers
use Rattle.office_classes.proofs.classes.define_class.Goals as goal

pub returns-in-Some-clause-serves : goal.returns-in-Some-clause-serves
returns-in-Some-clause-serves g c clean office =
    let a = c.args in
    let asked = c.in_ok-why.ensures.reads clean office in
    let denied = rw (c.as_str.ensures.text, c.in-Some.is) at asked.1 in
    refused_by (visit_on a.day a.caller.now) (requests.DefineClass a.name.now a.years) c.in-Some.why office asked.0 (λ i. first_told (denied i ∷ []))

pub returns-clause-serves : goal.returns-clause-serves
returns-clause-serves g c clean office =
    let a = c.args in
    let put = c.in_ok-put_years.ensures in
    let asked = c.in_ok-why.ensures.reads (clean_first put.inside.stays clean) office in
    let none : c.in_ok-why.field-0 ≡ None = search rules in
    let allowed = rw (c.as_str.ensures.text, none) at asked.1 in
    let changed = rw c.as_str-2.ensures.text at (put.changes clean (office_still asked.0 office)) in
    allowed_by (visit_on a.day a.caller.now) (requests.DefineClass a.name.now a.years) (answers.Class c.in_ok-to_owned.field-0 a.years) refl asked.0 (λ i. first_told (allowed i ∷ [])) (ap (λ n. Some (answers.Class n a.years)) (sym c.in_ok-to_owned.ensures)) changed
