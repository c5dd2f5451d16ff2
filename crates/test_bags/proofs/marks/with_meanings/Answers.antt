use Rattle.std.proofs.Common.{subst, string_bytes}
use Rattle.test_bags.specs.Marks.{texts, Means}
use Rattle.test_bags.proofs.MarkLemmas.{next_mark, no_more}
use Rattle.test_bags.proofs.marks.with_meanings.Goals as goal

pub loop-mark-init : goal.loop-mark-init
loop-mark-init c told left = subst (λ text. Means (texts c.args.marks.now) text told) c.in_ok-text.ensures.ok left

pub loop-mark-preserved : goal.loop-mark-preserved
loop-mark-preserved c told left =
    c.loop-mark.invariant told
    (next_mark c.args.marks.now c.loop-mark.mark-index (string_bytes c.loop-mark.text) c.deref.result.now (string_bytes c.in_ok-text-2.text) told
    c.loop-mark-test.true c.deref.ensures c.in_ok-text-2.ensures.ok left)

pub returns : goal.returns
returns c =
    c.loop-mark.invariant (string_bytes c.loop-mark.text)
    (no_more c.args.marks.now c.loop-mark.mark-index (string_bytes c.loop-mark.text) c.loop-mark-test.false)
