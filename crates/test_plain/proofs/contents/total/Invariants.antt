use Rattle.test_plain.proofs.Common.{◌≡◌, ◌+◌, drop, map, length, sum, texts}
use Rattle.test_plain.proofs.contents.total.Given as goal

abbrev pub invariant-loop-text : goal.invariant-loop-text
invariant-loop-text l = l.bytes + sum (map length (texts (drop l.text-index l.contents))) ≡ sum (map length (texts l.contents))
