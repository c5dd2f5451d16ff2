use Rattle.test_plain.proofs.Lemmas.{◌≡◌, ◌+◌, drop, length, filter_map, deposit_in, accession_behind}
use Rattle.test_plain.proofs.reading.accession_of.Given as goal

abbrev pub invariant-loop-change : goal.invariant-loop-change
invariant-loop-change l =
    (l.number + length (filter_map deposit_in (drop l.change-index l.changes)) ≡ length (filter_map deposit_in l.changes))
    × (accession_behind l.number l.accession (filter_map deposit_in (drop l.change-index l.changes)) ≡ accession_behind 0 l.accession (filter_map deposit_in l.changes))
