use Rattle.office_queries.proofs.Lemmas.{take, disposable_told, role_name, AreTold}
use Rattle.office_core.specs.declared.action.Action.TheVariants as acts
use Rattle.office_queries.proofs.due_lists.allowed_among.Given as goal

abbrev pub invariant-loop-row : goal.invariant-loop-row
invariant-loop-row g l = AreTold acts.Dispose disposable_told g.S.Store l.fn.tx.conn l.tx.conn (role_name l.asker) l.asker.day l.allowances (take l.row-index l.rows) l.numbers.items
