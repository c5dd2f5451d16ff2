use Rattle.test_plain.proofs.Common.{◌≡◌, ◌++◌, drop, filter_map, told_hold}
use Rattle.test_plain.proofs.answering.told_holds.Given as goal

abbrev pub invariant-loop-hold : goal.invariant-loop-hold
invariant-loop-hold l = l.holds.items ++ filter_map (told_hold l.office) (drop l.hold-index l.hold-items) ≡ filter_map (told_hold l.office) l.hold-items
