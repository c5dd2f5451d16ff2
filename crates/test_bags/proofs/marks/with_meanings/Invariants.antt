use Rattle.std.proofs.Common.{ℕ, List, drop, string_bytes}
use Rattle.test_bags.specs.Marks.{texts, Means}
use Rattle.test_bags.proofs.marks.with_meanings.Given as goal

-- what the marks that are left make of the text, all make of the one that was passed
abbrev pub invariant-loop-mark : goal.invariant-loop-mark
invariant-loop-mark l = (told : List ℕ) → Means (texts (drop l.mark-index l.marks)) (string_bytes l.text) told → Means (texts l.marks) l.marked told
