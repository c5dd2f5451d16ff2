use Rattle.bag_check.proofs.AnswerLemmas.{accepted_is_valid, valid_is_accepted, refused_is_first, first_is_refused}
use Rattle.bag_check.proofs.check.check_bag.Goals as goal

pub returns-clause-valid : goal.returns-clause-valid
returns-clause-valid c = accepted_is_valid c.args.bag.now c.files.ensures.bag c.judge_bag.result c.judge_bag.ensures

pub returns-clause-accepts : goal.returns-clause-accepts
returns-clause-accepts c = valid_is_accepted c.args.bag.now c.files.ensures.bag c.judge_bag.result c.judge_bag.ensures

pub returns-clause-refused : goal.returns-clause-refused
returns-clause-refused c = refused_is_first c.args.bag.now c.files.ensures.bag c.judge_bag.result c.judge_bag.ensures

pub returns-clause-first_fault : goal.returns-clause-first_fault
returns-clause-first_fault c = first_is_refused c.args.bag.now c.files.ensures.bag c.judge_bag.result c.judge_bag.ensures
