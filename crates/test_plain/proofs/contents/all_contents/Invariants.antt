use Rattle.test_plain.proofs.Common.{◌≡◌, ◌++◌, drop, flat_map, texts, contents_of}
use Rattle.office_history.specs.Stocks.{files_of}
use Rattle.test_plain.proofs.contents.all_contents.Given as goal

abbrev pub invariant-loop-number : goal.invariant-loop-number
invariant-loop-number l = texts l.all.items ++ contents_of (flat_map (files_of l.office) (drop l.number-index l.number-items)) ≡ contents_of (flat_map (files_of l.office) l.number-items)
