-- What holds of bytes that are known to be there.
use Rattle.commands.proofs.Common.{◌≡◌, ℕ, List, Option, Some, None, IfSome, subst}

-- what holds of the bytes that were read holds of those that the reader gave, where they are known
pub of_known : (known : Option (List ℕ)) (bytes : List ℕ) (part : List ℕ → List ℕ) (P : List ℕ → Type 0) → IfSome known (λ given. bytes ≡ part given) → P bytes
    → IfSome known (λ given. P (part given))
of_known None bytes part P read holds = tt
of_known (Some given) bytes part P read holds = subst P read holds
