use Rattle.office_queries.proofs.Common.{◌≡◌, ◌<◌, drop, int_at, map, total_by}
use Rattle.office_queries.proofs.Totals.{total_after}
use Rattle.office_queries.proofs.stocks.stock_in.Given as goal

abbrev pub invariant-loop-row : goal.invariant-loop-row
invariant-loop-row l = (total_by (map (λ row. int_at row 1) l.rows) ≡ total_after l.bytes (map (λ row. int_at row 1) (drop l.row-index l.rows))) × (l.bytes < 18446744073709551616)
