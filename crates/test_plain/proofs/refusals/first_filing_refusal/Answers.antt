use Rattle.test_plain.proofs.Lemmas.{◌≡◌, ◌∙◌, ◌∷◌, [], Option, Some, None, sym, ap, first_some, Refusal, denial, no_such_class, no_such_collection, one_only}
use Rattle.office_core.specs.declared.action.Action.TheVariants as acts
use Rattle.test_plain.proofs.refusals.first_filing_refusal.Goals as goal

pub returns : goal.returns
returns c =
    let h = c.args.office.now in
    let description = c.args.description.now in
    let denied : Option Refusal = denial h c.args.day c.args.caller.now acts.Deposit (Some description.collection) (Some description.class) in
    let collection : no_such_collection h description.collection ≡ None = sym (c.no_such_collection.ensures ∙ ap (no_such_collection h) c.as_str-collection.ensures.text) ∙ c.in_default.is in
    let class : no_such_class h description.class ≡ None = sym (c.no_such_class.ensures ∙ ap (no_such_class h) c.as_str-class.ensures.text) ∙ c.in_default-no_such_class.is in
    let same : c.denial.result ≡ denied = c.denial.ensures ∙ (λ i. denial h c.args.day c.args.caller.now acts.Deposit (Some (c.as_str-collection.ensures.text i)) (Some (c.as_str-class.ensures.text i))) in
    same ∙ one_only denied ∙ sym (λ i. first_some (collection i ∷ class i ∷ denied ∷ []))
