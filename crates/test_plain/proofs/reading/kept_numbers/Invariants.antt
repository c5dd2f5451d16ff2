use Rattle.test_plain.proofs.Common.{◌≡◌, ◌+◌, ◌-◌, ◌++◌, filter, is_none, range_with_len, destruction_day, kept_numbers}
use Rattle.test_plain.proofs.reading.kept_numbers.Given as goal

abbrev pub invariant-loop-number : goal.invariant-loop-number
invariant-loop-number l = l.kept.items ++ filter (λ n. is_none (destruction_day l.office n)) (range_with_len l.number (l.count + 1 - l.number)) ≡ kept_numbers l.office
