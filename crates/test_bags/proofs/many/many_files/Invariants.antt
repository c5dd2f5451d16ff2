use Rattle.std.proofs.Common.{◌≡◌}
use Rattle.test_bags.specs.ManyFiles.{form_without_end}
use Rattle.test_bags.proofs.many.many_files.Given as goal

abbrev pub invariant-loop-number : goal.invariant-loop-number
invariant-loop-number l = l.form.items ≡ form_without_end l.number-counter
