use Rattle.office_tables.proofs.Common.{◌≡◌, drop, known_row}
use Rattle.office_tables.proofs.opening.version_among.Given as goal

abbrev pub invariant-loop-row : goal.invariant-loop-row
invariant-loop-row l = known_row l.rows ≡ known_row (drop l.row-index l.rows)
