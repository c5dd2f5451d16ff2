use Rattle.test_plain.proofs.Lemmas.{◌≡◌, ◌∙◌, ◌∷◌, [], ℕ, List, Some, None, sym, ap, first_some, denial, no_such_class, full_of_holds, one_only}
use Rattle.office_core.specs.declared.action.Action.TheVariants as acts
use Rattle.test_plain.proofs.refusals.class_hold_refusal.Goals as goal

pub returns : goal.returns
returns c =
    let h = c.args.office.now in
    let there : no_such_class h c.args.name.now ≡ None = sym (c.no_such_class.ensures ∙ ap (no_such_class h) c.as_str.ensures.text) ∙ c.in_default.is in
    let allowed : denial h c.args.day c.args.caller.now acts.Hold None (Some c.args.name.now) ≡ None =
    sym (c.denial.ensures ∙ ap (λ (name : List ℕ). denial h c.args.day c.args.caller.now acts.Hold None (Some name)) c.as_str-2.ensures.text) ∙ c.in_default-denial.is in
    c.full_of_holds.ensures ∙ one_only (full_of_holds h) ∙ sym (λ i. first_some (there i ∷ allowed i ∷ full_of_holds h ∷ []))
