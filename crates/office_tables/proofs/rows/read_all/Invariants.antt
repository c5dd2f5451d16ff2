use Rattle.office_tables.proofs.Common.{◌≡◌, map, take}
use Rattle.office_tables.proofs.rows.read_all.Given as goal

abbrev pub invariant-loop-row : goal.invariant-loop-row
invariant-loop-row g l = l.all.items ≡ map g.T.Shown.shown_in (take l.row-index l.rows)
