use Rattle.test_plain.proofs.Common.{◌≡◌, drop, bytes_eq, list_any, texts}
use Rattle.test_plain.proofs.contents.has_text.Given as goal

abbrev pub invariant-loop-other : goal.invariant-loop-other
invariant-loop-other l = list_any (bytes_eq l.text) (texts (drop l.other-index l.others)) ≡ list_any (bytes_eq l.text) (texts l.others)
