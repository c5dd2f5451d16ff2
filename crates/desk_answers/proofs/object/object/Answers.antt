use Rattle.desk_answers.proofs.MemberLemmas.{one_more_member}
use Rattle.desk_answers.proofs.object.object.Goals as goal

pub loop-key-preserved : goal.loop-key-preserved
loop-key-preserved c = one_more_member c.args.members.now c.loop-key.key-index c.loop-key-item.result _ _ _ c.loop-key.invariant c.in_ok-put.ensures.ok c.in_ok-member_value.ensures c.loop-key-test.true c.loop-key-item.is
