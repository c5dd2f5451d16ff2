use Rattle.test_plain.proofs.Common.{arith, common_steps}
use Rattle.test_plain.proofs.RunLemmas.{run_on, run_end, run_of}
use Rattle.test_plain.proofs.history.Office.run.Goals as goal

pub loop-item-preserved : goal.loop-item-preserved
loop-item-preserved c = record {
  count = grind (arith, common_steps);
  room = grind (arith, common_steps);
  legal = λ legal. c.step-answer.ensures.legal (c.loop-item.invariant.legal legal);
  served = λ more last rest. rw c.in_ok-push.ensures.items (run_on c.args.self.now c.loop-item.self c.step-answer.new.self last c.args.items.now c.loop-item.item-index c.item-item.result c.loop-item.answers.items more c.step-answer.result c.loop-item-test.true c.item-item.is c.step-answer.ensures.served c.loop-item.invariant.served rest);
}

pub returns-clause-served : goal.returns-clause-served
returns-clause-served c = run_end c.args.self.now c.loop-item.self c.args.items.now c.loop-item.item-index c.loop-item.answers.items c.loop-item-test.false c.loop-item.invariant.served

pub returns-clause-ran : goal.returns-clause-ran
returns-clause-ran c = run_of c.args.items.now c.loop-item.answers.items c.args.self.now c.loop-item.self (returns-clause-served c)

pub returns-clause-legal : goal.returns-clause-legal
returns-clause-legal c = c.loop-item.invariant.legal
