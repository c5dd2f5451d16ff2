use Rattle.office_engine.proofs.Common.{◌≡◌, ◌≤◌, take, length, vec_len, vec_capacity, ⊤, HasCleanDisk, Survives, state, InTurn}
use Rattle.office_engine.proofs.office.Office.run.Given as goal

abbrev pub invariant-loop-item : goal.invariant-loop-item
invariant-loop-item g l = record {
  count : vec_len l.answers ≡ l.item-index;
  room : length l.items ≤ vec_capacity l.answers;
  in_turn : HasCleanDisk (state g.S.Store l.self) → InTurn g.S.Store l.fn.self l.self (take l.item-index l.items) l.answers.items;
  survives : Survives (state g.S.Store l.fn.self) (state g.S.Store l.self) (λ _. ⊤);
}
