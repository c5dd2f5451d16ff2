use Rattle.commands.proofs.Lemmas.{Some, None, Allow, Deny, decision_is_said, fault_is_said, missing_day_is_said}
use Rattle.commands.proofs.explain.explain_outcome.Goals as goal

pub returns-clause-allowed : goal.returns-clause-allowed
returns-clause-allowed c = λ policy day rule of on is.
    decision_is_said c.args.bytes.now c.args.asked.now c.bytes_outcome.result c.bytes_outcome.ensures policy day (Some (record { rule = rule; effect = Allow })) of on is

pub returns-clause-denied : goal.returns-clause-denied
returns-clause-denied c = λ policy day rule of on is.
    decision_is_said c.args.bytes.now c.args.asked.now c.bytes_outcome.result c.bytes_outcome.ensures policy day (Some (record { rule = rule; effect = Deny })) of on is

pub returns-clause-by_default : goal.returns-clause-by_default
returns-clause-by_default c = λ policy day of on is.
    decision_is_said c.args.bytes.now c.args.asked.now c.bytes_outcome.result c.bytes_outcome.ensures policy day None of on is

pub returns-clause-refused : goal.returns-clause-refused
returns-clause-refused c = fault_is_said c.args.bytes.now c.args.asked.now c.bytes_outcome.result c.bytes_outcome.ensures

pub returns-clause-undated : goal.returns-clause-undated
returns-clause-undated c = missing_day_is_said c.args.bytes.now c.args.asked.now c.bytes_outcome.result c.bytes_outcome.ensures
