use Rattle.test_plain.proofs.Common.{◌≡◌, ◌≤◌, ◌++◌, List, length, drop, vec_len, vec_capacity, Answer, History, IsWantOfMemory, IsLegal, RunFailing}
use Rattle.test_plain.proofs.history.Office.run.Given as goal

abbrev pub invariant-loop-item : goal.invariant-loop-item
invariant-loop-item l = record {
  count : vec_len l.answers ≡ l.item-index;
  room : length l.items ≤ vec_capacity l.answers;
  legal : IsLegal l.fn.self → IsLegal l.self;
  served : (more : List Answer) (last : History) → RunFailing IsWantOfMemory l.self (drop l.item-index l.items) more last → RunFailing IsWantOfMemory l.fn.self l.items (l.answers.items ++ more) last;
}
