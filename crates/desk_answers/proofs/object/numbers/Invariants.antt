use Rattle.desk_answers.proofs.Common.{◌≡◌, map, take, view, whole}
use Rattle.desk_answers.proofs.object.numbers.Given as goal

abbrev pub invariant-loop-number : goal.invariant-loop-number
invariant-loop-number l = map view l.values.items ≡ map whole (take l.number-index l.numbers)
