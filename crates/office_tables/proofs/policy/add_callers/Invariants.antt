use Rattle.office_tables.proofs.Lemmas.{drop, with_callers, ArePut}
use Rattle.office_tables.proofs.policy.add_callers.Given as goal

abbrev pub invariant-loop-caller : goal.invariant-loop-caller
invariant-loop-caller g l = ArePut g.S.Store with_callers l.callers (drop l.caller-index l.callers) l.fn.tx.conn l.tx.conn
