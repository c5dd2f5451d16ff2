use Rattle.test_plain.proofs.Common.{◌≡◌, ◌++◌, drop, filter_map, listed_record}
use Rattle.test_plain.proofs.answering.listed_records.Given as goal

abbrev pub invariant-loop-number : goal.invariant-loop-number
invariant-loop-number l = l.records.items ++ filter_map (listed_record l.office l.day l.caller (record { collection = l.collection; class = l.class })) (drop l.number-index l.number-items) ≡ filter_map (listed_record l.office l.day l.caller (record { collection = l.collection; class = l.class })) l.number-items
