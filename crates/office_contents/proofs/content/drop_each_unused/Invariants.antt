use Rattle.office_contents.proofs.Common.{Ok, map, drop, int_at, GoesOnInTurn, Does, IsTidied, TableFault}
use Rattle.office_contents.proofs.content.drop_each_unused.Given as goal

abbrev pub invariant-loop-row : goal.invariant-loop-row
invariant-loop-row g l = record {
  inside : GoesOnInTurn {T = Unit {0}} g.S.Store l.fn.tx.conn l.tx.conn (Ok tt);
  tidied : Does {T = Unit {0}} {E = TableFault} g.S.Store l.fn.tx.conn.now l.tx.conn.now (Ok tt) (λ old new _. IsTidied (map (λ row. int_at row 0) l.rows) (map (λ row. int_at row 0) (drop l.row-index l.rows)) old new);
}
