use Rattle.office_deposits.proofs.Lemmas.{Ok, pos, GoesOnInTurn, Adds}
use Rattle.office_deposits.proofs.storing.add_files.Given as goal

abbrev pub invariant-loop-index : goal.invariant-loop-index
invariant-loop-index g l = record {
  inside : GoesOnInTurn {T = Unit {0}} g.S.Store l.fn.tx.conn l.tx.conn (Ok tt);
  adds : Adds g.S.Store l.fn.tx.conn.now l.tx.conn.now (pos l.number) l.files l.index;
}
