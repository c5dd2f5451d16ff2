-- What a writer holds to which nothing was given.
use Rattle.office_commands.proofs.Common.{◌≡◌, ℕ, List, [], Option, sym, subst, Appends-nil, Appends}

-- what stays holds nothing more
pub appends_nothing : (old new : Option (List ℕ)) → new ≡ old → Appends old new []
appends_nothing old new same = subst (λ (held : Option (List ℕ)). Appends old held []) (sym same) (Appends-nil old)
