use Rattle.test_plain.proofs.Lemmas.{◌∙◌, ◌&&◌, sym, arith, is_live, covers, filter_took, filter_passed}
use Rattle.test_plain.proofs.reading.live_holds.Goals.{then-holds_back+in_ok-push, else-holds_back}
use Rattle.test_plain.proofs.reading.live_holds.Goals as goal

pub loop-hold-preserved : goal.loop-hold-preserved
loop-hold-preserved c = elim c.if-holds_back.branch [
  | then-holds_back+in_ok-push w ↦ rw (w.found-is, w.in_ok-push.ensures.items) (filter_took (λ k. is_live c.args.office.now k && covers c.args.office.now k c.args.number c.args.deposit.now) _ _ _ _ (omega arith) (sym c.holds_back.ensures ∙ w.if-holds_back.true) c.loop-hold.invariant)
  | else-holds_back w ↦ rw w.found-is (filter_passed (λ k. is_live c.args.office.now k && covers c.args.office.now k c.args.number c.args.deposit.now) _ _ _ _ (omega arith) (sym c.holds_back.ensures ∙ w.if-holds_back.false) c.loop-hold.invariant)
]
