use Rattle.test_plain.proofs.Lemmas.{◌∙◌, sym, told_hold, item_told, item_silent}
use Rattle.test_plain.proofs.answering.told_holds.Goals.{in-Some+in_ok-push, in_default}
use Rattle.test_plain.proofs.answering.told_holds.Goals as goal

pub loop-hold-preserved : goal.loop-hold-preserved
loop-hold-preserved c = elim c.match-branch-3.branch [
  | in-Some+in_ok-push w ↦ rw (w.holds-is, w.in_ok-push.ensures.items) (item_told _ _ _ c.loop-hold-test.true (told_hold c.args.office.now) _ _ _ (sym c.in_ok-told.ensures ∙ w.in-Some.is) c.loop-hold.invariant)
  | in_default w ↦ rw w.holds-is (item_silent _ _ _ c.loop-hold-test.true (told_hold c.args.office.now) _ _ (sym c.in_ok-told.ensures ∙ w.in_default.is) c.loop-hold.invariant)
]
