use Rattle.bag_text.proofs.Common.{◌≡◌, ◌+◌, ◌≤◌, length, map, [], lines, entries_of, entry_in}
use Rattle.bag_text.proofs.manifest.read_entries.Given as goal

abbrev pub invariant-loop-rest : goal.invariant-loop-rest
invariant-loop-rest l = (l.number + length l.rest ≤ length l.text + 1) × (entries_of l.version l.algorithm l.number (map entry_in l.entries.entries) (lines l.rest) ≡ entries_of l.version l.algorithm 1 [] (lines l.text))

abbrev pub decreases-loop-rest : goal.decreases-loop-rest
decreases-loop-rest l = length l.rest
