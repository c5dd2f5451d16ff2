use Rattle.test_plain.proofs.Lemmas.{◌≡◌, ◌∙◌, ◌∷◌, [], sym, first_some, kept_refusals, full_of_holds, first_in_front}
use Rattle.office_core.specs.declared.action.Action.TheVariants as acts
use Rattle.test_plain.proofs.refusals.first_hold_refusal.Goals as goal

pub returns-in-Some : goal.returns-in-Some
returns-in-Some c =
    let row = kept_refusals c.args.office.now c.args.day c.args.caller.now acts.Hold c.args.number c.args.deposit.now in
    let asked : c.in_ok-refusal.field-0 ≡ first_some row = rw c.in_ok-refusal.was at c.first_asked_refusal.ensures in
    sym (first_in_front row (full_of_holds c.args.office.now ∷ []) c.in-Some.refusal (sym asked ∙ c.in-Some.is))
