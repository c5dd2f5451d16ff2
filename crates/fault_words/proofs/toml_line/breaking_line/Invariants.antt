use Rattle.fault_words.proofs.Common.{◌≡◌, ◌<◌, ◌-◌, true, false, first_lines, is_toml}
use Rattle.fault_words.proofs.toml_line.breaking_line.Given as goal

abbrev pub invariant-loop-good : goal.invariant-loop-good
invariant-loop-good l =
    (l.good < l.broken)
    × (0 < l.step)
    × (is_toml (first_lines l.good l.bytes) ≡ true)
    × (is_toml (first_lines l.broken l.bytes) ≡ false)

abbrev pub decreases-loop-good : goal.decreases-loop-good
decreases-loop-good l = l.broken - l.good
