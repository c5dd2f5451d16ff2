-- What reading a policy's file gives.
use Rattle.std.specs.Prelude.{◌≢◌, ℕ, List, Option, Result, Ok, Err, string_bytes}
use Rattle.std.specs.Io.KnownBytes.{Consumes, IsAtEnd}
use Rattle.fault_words.specs.PolicyReasons.{IsPolicyReason}
use Rattle.office_core.specs.Policies.{PolicyValue}
use Rattle.office_core.specs.declared.policy_fault.PolicyFault.TheVariants.{Memory}
use Rattle.commands.specs.Explaining.{HasFault, SpellsPolicyBytes}
use Rattle.commands.specs.declared.policy_file.RefusedPolicy.{RefusedPolicy}

-- the bytes are refused for their first fault, which isn't that memory ran out, with its reason
pub record IsPolicyRefused (bytes : List ℕ) (refused : RefusedPolicy) : Type 0 where
  pub fault : HasFault bytes refused.fault
  pub known : refused.fault ≢ Memory
  pub reason : IsPolicyReason bytes refused.fault (string_bytes refused.reason)

-- the policy that the bytes spell, or why they are none
abbrev pub IsRead : List ℕ → Result PolicyValue RefusedPolicy → Type 0
IsRead bytes (Ok policy) = SpellsPolicyBytes bytes policy
IsRead bytes (Err refused) = IsPolicyRefused bytes refused

-- these bytes are all that a reader had left, and it is at its end
abbrev pub IsAllOf : Option (List ℕ) → Option (List ℕ) → List ℕ → Type 0
IsAllOf old new bytes = Consumes old new bytes × IsAtEnd new
