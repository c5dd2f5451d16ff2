use Rattle.test_plain.proofs.Common.{◌≡◌, ◌++◌, drop, filter, is_none, Dispose, refusal}
use Rattle.test_plain.proofs.answering.due_list.Given as goal

abbrev pub invariant-loop-number : goal.invariant-loop-number
invariant-loop-number l = l.due.items ++ filter (λ n. is_none (refusal l.office l.day l.caller (Dispose n))) (drop l.number-index l.number-items) ≡ filter (λ n. is_none (refusal l.office l.day l.caller (Dispose n))) l.number-items
