-- What making a bag of a list gives.
use Rattle.std.specs.Prelude.{◌≡◌, List, Option, Some, None, Result, Err, MatchResult}
use Rattle.bag_text.specs.TransferForm.{File}
use Rattle.bag_text.specs.declared.set_fault.SetFault.{SetFault}
use Rattle.bag_text.specs.declared.set_fault.SetFault.TheVariants.{Memory}

-- the fault that was found, or else the list itself, unless memory ran out
abbrev pub Makes : {X : Type 0} → (X → List File) → List File → Option SetFault → Result X SetFault → Type 0
Makes view files (Some fault) result = result ≡ Err fault
Makes view files None result = MatchResult result (λ x. view x ≡ files) (λ fault. fault ≡ Memory)
