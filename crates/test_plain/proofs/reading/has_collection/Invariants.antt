use Rattle.test_plain.proofs.Common.{◌≡◌, drop, bytes_eq, list_any, filter_map, collection_in}
use Rattle.test_plain.proofs.reading.has_collection.Given as goal

abbrev pub invariant-loop-change : goal.invariant-loop-change
invariant-loop-change l = list_any (bytes_eq l.name) (filter_map collection_in (drop l.change-index l.changes)) ≡ list_any (bytes_eq l.name) (filter_map collection_in l.changes)
