-- What comes of a policy's file.
use Rattle.std.specs.Prelude.{◌++◌, ◌∷◌, [], ℕ, List, Some, ⊤, codes, decimal, length}
use Rattle.office_core.specs.Policies.{PolicyValue}
use Rattle.office_stores.specs.declared.fault.Cause.TheVariants.{Policy}
use Rattle.office_stores.specs.declared.fault.CommandFault.{CommandFault}
use Rattle.office_stores.specs.declared.fault.CommandFault.TheVariants.{Failed}
use Rattle.office_stores.specs.declared.fault.StoreFault.TheVariants.{Device, Memory}

-- the file could not be read, or there was no memory
abbrev pub IsUnread : CommandFault → Type 0
IsUnread (Failed Device (Some (Policy error))) = ⊤
IsUnread (Failed Memory cause) = ⊤
IsUnread _ = ⊥

-- the line of a policy that was installed
abbrev pub installed_text : PolicyValue → List ℕ
installed_text policy = codes "installed " ++ (decimal (length policy.rules) ++ (codes " rules " ++ (decimal (length policy.callers) ++ (codes " callers" ++ 10 ∷ []))))
