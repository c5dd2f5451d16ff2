use Rattle.fault_words.proofs.Common.{◌≡◌, ◌++◌, take, drop, first_lines}
use Rattle.fault_words.proofs.toml_line.first_lines.Given as goal

abbrev pub invariant-loop-offset : goal.invariant-loop-offset
invariant-loop-offset l = take l.offset l.bytes ++ first_lines l.left (drop l.offset l.bytes) ≡ first_lines l.count l.bytes
