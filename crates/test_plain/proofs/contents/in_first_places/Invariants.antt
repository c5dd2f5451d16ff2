use Rattle.test_plain.proofs.Common.{◌≡◌, ◌++◌, drop, distinct_after, in_first_places, texts}
use Rattle.test_plain.proofs.contents.in_first_places.Given as goal

abbrev pub invariant-loop-text : goal.invariant-loop-text
invariant-loop-text l =
    texts l.found.items ++ distinct_after (texts l.found.items) (texts (drop l.text-index l.all)) ≡ in_first_places (texts l.all)
