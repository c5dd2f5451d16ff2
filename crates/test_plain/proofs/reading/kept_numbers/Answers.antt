use Rattle.test_plain.proofs.Lemmas.{◌∙◌, is_none, sym, arith, destruction_day, filter_took, filter_passed}
use Rattle.test_plain.proofs.reading.kept_numbers.Goals.{then-is_kept+in_ok-push, else-is_kept}
use Rattle.test_plain.proofs.reading.kept_numbers.Goals as goal

pub loop-number-preserved : goal.loop-number-preserved
loop-number-preserved c = elim c.if-is_kept.branch [
  | then-is_kept+in_ok-push w ↦ rw (w.kept-is, w.in_ok-push.ensures.items) (filter_took (λ n. is_none (destruction_day c.args.office.now n)) _ _ _ _ (omega arith) (sym c.is_kept.ensures ∙ w.if-is_kept.true) c.loop-number.invariant)
  | else-is_kept w ↦ rw w.kept-is (filter_passed (λ n. is_none (destruction_day c.args.office.now n)) _ _ _ _ (omega arith) (sym c.is_kept.ensures ∙ w.if-is_kept.false) c.loop-number.invariant)
]
