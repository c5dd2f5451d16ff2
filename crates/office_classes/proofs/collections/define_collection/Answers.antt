use Rattle.office_classes.proofs.Common.{rules, ◌≡◌, ap, sym, Some, None, ◌∷◌, [], refl, with_collection, clean_first, first_told, visit_on, office_still, allowed_by, changes_by, refused_by}
use Rattle.office_core.specs.declared.request.Request.TheVariants as requests
use Rattle.office_core.specs.declared.answer.Answer.TheVariants as answers
use Rattle.office_classes.proofs.collections.define_collection.Goals as goal

pub returns-in-Some-clause-serves : goal.returns-in-Some-clause-serves
returns-in-Some-clause-serves g c clean office =
    let a = c.args in
    let asked = c.in_ok-why.ensures.reads clean office in
    let denied = rw (c.as_str.ensures.text, c.in-Some.is) at asked.1 in
    refused_by (visit_on a.day a.caller.now) (requests.DefineCollection a.name.now) c.in-Some.why office asked.0 (λ i. first_told (denied i ∷ []))

pub returns-clause-serves : goal.returns-clause-serves
returns-clause-serves g c clean office =
    let a = c.args in
    let put = c.in_ok-put_collection.ensures in
    let asked = c.in_ok-why.ensures.reads (clean_first put.inside.stays clean) office in
    let none : c.in_ok-why.field-0 ≡ None = search rules in
    let allowed = rw (c.as_str.ensures.text, none) at asked.1 in
    let changed = changes_by put.inside (with_collection a.name.now) (rw c.as_str-2.ensures.text at put.becomes) put.contents clean (office_still asked.0 office) in
    allowed_by (visit_on a.day a.caller.now) (requests.DefineCollection a.name.now) (answers.Collection c.in_ok-to_owned.field-0) refl asked.0 (λ i. first_told (allowed i ∷ [])) (ap (λ n. Some (answers.Collection n)) (sym c.in_ok-to_owned.ensures)) changed
