use Rattle.test_plain.proofs.Lemmas.{◌∙◌, sym, ap, is_none, Dispose, refusal, none_said, item_passes, item_fails}
use Rattle.test_plain.proofs.answering.due_list.Goals.{then-is_none+in_ok-push, else-is_none}
use Rattle.test_plain.proofs.answering.due_list.Goals as goal

pub loop-number-preserved : goal.loop-number-preserved
loop-number-preserved c =
    let a = c.args in
    let told = ap is_none (sym c.in_ok-dispose_refusal.ensures) ∙ none_said c.in_ok-dispose_refusal.field-0 c.is_none.result c.is_none.ensures in
    elim c.if-is_none.branch [
      | then-is_none+in_ok-push w ↦ rw (w.due-is, w.in_ok-push.ensures.items) (item_passes _ _ _ c.loop-number-test.true (λ n. is_none (refusal a.office.now a.day a.caller.now (Dispose n))) _ _ (told ∙ w.if-is_none.true) c.loop-number.invariant)
      | else-is_none w ↦ rw w.due-is (item_fails _ _ _ c.loop-number-test.true (λ n. is_none (refusal a.office.now a.day a.caller.now (Dispose n))) _ _ (told ∙ w.if-is_none.false) c.loop-number.invariant)
    ]
