-- What was read of a reader is the first of what it had left.
use Rattle.std.proofs.Common.{◌≡◌, ◌∙◌, ◌++◌, ◌≤◌, ℕ, List, Option, Some, None, IfSome, sym, ap, length, take, append-nil}
use Rattle.std.proofs.lemmas.List.{take_all}
use Rattle.std.specs.Io.KnownBytes.{Consumes, IsAtEnd}

-- or fewer, where it is at its end
pub all_bytes : (old new : Option (List ℕ)) (bytes : List ℕ) (limit : ℕ) → Consumes old new bytes → IsAtEnd new → length bytes ≤ limit
    → IfSome old (λ given. bytes ≡ take limit given)
all_bytes None new bytes limit lost end few = tt
all_bytes (Some given) None bytes limit lost end few = absurd lost
all_bytes (Some given) (Some rest) bytes limit lost end few =
    let whole : given ≡ bytes = lost ∙ ap (λ r. bytes ++ r) end ∙ append-nil bytes in
    sym (ap (take limit) whole ∙ take_all limit bytes few)
