use Rattle.office_queries.proofs.Lemmas.{take, listed_record, role_name, wanted_of, AreTold}
use Rattle.office_core.specs.declared.action.Action.TheVariants as acts
use Rattle.office_queries.proofs.lists.shown_among.Given as goal

abbrev pub invariant-loop-row : goal.invariant-loop-row
invariant-loop-row g l = AreTold acts.List (λ t role day. listed_record t role day (wanted_of l.collection l.class)) g.S.Store l.fn.tx.conn l.tx.conn (role_name l.asker) l.asker.day l.allowances (take l.row-index l.rows) l.told.items
