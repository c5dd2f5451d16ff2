use Rattle.desk_heads.proofs.Common.{sym, ap, ◌∙◌, take_rest, end_after_line_feed}
use Rattle.desk_heads.proofs.EndLemmas.{one_later, this_end, no_end}
use Rattle.desk_heads.proofs.head_end.end_of_head.Goals as goal

pub returns-in-Some : goal.returns-in-Some
returns-in-Some c = this_end c.args.bytes.now c.loop-at.at c.in-Some.n (ap end_after_line_feed (sym (take_rest c.args.bytes.now c.loop-at.at)) ∙ sym c.in-Some.ensures.value) c.loop-at.invariant

pub loop-at-preserved : goal.loop-at-preserved
loop-at-preserved c = one_later c.args.bytes.now c.loop-at.at c.loop-at-test.true (ap end_after_line_feed (sym (take_rest c.args.bytes.now c.loop-at.at)) ∙ sym c.in_default.ensures.value) c.loop-at.invariant

pub returns : goal.returns
returns c = no_end c.args.bytes.now c.loop-at.at c.loop-at-test.false c.loop-at.invariant
