-- What was read of a file.
use Rattle.bag_folders.proofs.Common.{◌≡◌, ◌+◌, ◌∙◌, ◌++◌, ℕ, List, ap, sym, length, drop, take-append-drop, length-drop, arith, AppendsSome}
use Rattle.std.specs.Io.{StartsWith}

-- What was read to the end stands behind what was there before.
pub some_behind : (old new : List ℕ) (count size : ℕ) → StartsWith new old → length new ≡ length old + count → count ≡ size → AppendsSome size old new
some_behind old new count size front grown same =
    let rest = length-drop (length old) new in
    (drop (length old) new, omega arith, sym (take-append-drop (length old) new) ∙ ap (λ (t : List ℕ). t ++ drop (length old) new) front)
