use Rattle.desk_heads.proofs.Common.{◌≡◌, ◌+◌, drop, option_map, head_end}
use Rattle.desk_heads.proofs.head_end.end_of_head.Given as goal

-- the end of the whole is that of what is left
abbrev pub invariant-loop-at : goal.invariant-loop-at
invariant-loop-at l = head_end l.bytes ≡ option_map (λ n. l.at + n) (head_end (drop l.at l.bytes))
