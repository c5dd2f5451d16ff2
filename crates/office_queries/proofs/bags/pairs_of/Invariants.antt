use Rattle.office_queries.proofs.Common.{◌≡◌, map, take, files_of, file_in}
use Rattle.office_queries.proofs.bags.pairs_of.Given as goal

abbrev pub invariant-loop-row : goal.invariant-loop-row
invariant-loop-row l = files_of l.pairs.items ≡ map file_in (take l.row-index l.rows)
