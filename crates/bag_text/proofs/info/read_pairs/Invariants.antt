use Rattle.bag_text.proofs.Lemmas.{◌≡◌, ◌+◌, ◌≤◌, length, [], AllByRecursion, lines, pairs_from, pairs_of, AreMarked, IsSoundLine}
use Rattle.bag_text.proofs.info.read_pairs.Given as goal

abbrev pub invariant-loop-rest : goal.invariant-loop-rest
invariant-loop-rest l = record {
  room : l.number + length l.rest ≤ length l.text + 1;
  so_far : pairs_from l.number (pairs_of l.pairs.items) (lines l.rest) ≡ pairs_from 1 [] (lines l.text);
  sound : AllByRecursion IsSoundLine (lines l.rest);
  marked : AreMarked l.pairs.items;
}

abbrev pub decreases-loop-rest : goal.decreases-loop-rest
decreases-loop-rest l = length l.rest
