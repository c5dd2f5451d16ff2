use Rattle.bag_check.proofs.Common.{◌≡◌, map, find, entry_in, breaks_at}
use Rattle.bag_check.proofs.breach.first_listed.Given as goal

abbrev pub invariant-loop-path : goal.invariant-loop-path
invariant-loop-path l = find (breaks_at l.bag l.rule) (map entry_in l.path-iterator) ≡ find (breaks_at l.bag l.rule) (map entry_in l.manifest.entries.entries)
