use Rattle.office_tables.proofs.Common.{◌≡◌, map, pos, take, ◌++◌, int_at}
use Rattle.office_tables.proofs.holds.add_numbers.Given as goal

abbrev pub invariant-loop-row : goal.invariant-loop-row
invariant-loop-row l = map pos l.numbers.items ≡ map pos l.fn.numbers.items ++ map (λ row. int_at row 0) (take l.row-index l.rows)
