use Rattle.test_plain.proofs.Lemmas.{◌≡◌, ◌∙◌, ◌∷◌, [], sym, IfOk-weaker, first_some, kept_refusals, no_file, first_in_front, first_behind, one_only}
use Rattle.office_core.specs.declared.action.Action.TheVariants as acts
use Rattle.test_plain.proofs.refusals.first_file_refusal.Goals as goal

pub returns-in-Some : goal.returns-in-Some
returns-in-Some c =
    let row = kept_refusals c.args.office.now c.args.day c.args.caller.now acts.Download c.args.number c.args.deposit.now in
    let asked : c.in_ok-refusal.field-0 ≡ first_some row = rw c.in_ok-refusal.was at c.first_asked_refusal.ensures in
    sym (first_in_front row (no_file c.args.deposit.now c.args.path.now ∷ []) c.in-Some.refusal (sym asked ∙ c.in-Some.is))

pub returns-in-None : goal.returns-in-None
returns-in-None c =
    let row = kept_refusals c.args.office.now c.args.day c.args.caller.now acts.Download c.args.number c.args.deposit.now in
    let asked : c.in_ok-refusal.field-0 ≡ first_some row = rw c.in_ok-refusal.was at c.first_asked_refusal.ensures in
    IfOk-weaker c.no_file.result _ _ (λ found is. is ∙ one_only (no_file c.args.deposit.now c.args.path.now) ∙ sym (first_behind row (no_file c.args.deposit.now c.args.path.now ∷ []) (sym asked ∙ c.in-None.is))) c.no_file.ensures
