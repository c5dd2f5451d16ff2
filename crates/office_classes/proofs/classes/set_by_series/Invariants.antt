use Rattle.office_classes.proofs.Common.{Ok, take, ◌∷◌, GoesOnInTurn, TableFault, with_due_days, Changes}
use Rattle.office_classes.proofs.DueDaysByRows.{EndsInSeries}
use Rattle.office_classes.proofs.classes.set_by_series.Given as goal

abbrev pub invariant-loop-next : goal.invariant-loop-next
invariant-loop-next g l =
    (series : EndsInSeries (l.row ∷ take l.next-index l.others) l.first l.last)
    × GoesOnInTurn {T = Unit {0}} g.S.Store l.fn.tx.conn l.tx.conn (Ok tt)
    × Changes {T = Unit {0}} {E = TableFault} g.S.Store l.fn.tx.conn.now l.tx.conn.now (Ok tt) (with_due_days l.years series.before)
