-- What a policy's text is read as.
use Rattle.commands.proofs.Common.{◌≡◌, ◌⊎◌, ◌∙◌, List, ℕ, Result, Ok, Err, IfOk, IfErr, IsUtf8, inl, inr, sym, ap, refusal_is, PolicyValue, named_policy_fault, policy_of, PolicyFault, HasFault, SpellsPolicyBytes}
use Rattle.bag_text.specs.Answers.{Answers}
use Rattle.office_core.specs.declared.policy_fault.PolicyFault.TheVariants.{Memory}

abbrev Read : Type 0
Read = Result PolicyValue PolicyFault

pub read_is_spelled : (bytes text : List ℕ) (result : Read) → text ≡ bytes → IsUtf8 bytes → Answers named_policy_fault result (policy_of text) → IfOk result (SpellsPolicyBytes bytes)
read_is_spelled bytes text (Ok policy) same utf8 answers = record { utf8 = utf8; read = ap policy_of (sym same) ∙ answers }
read_is_spelled bytes text (Err fault) same utf8 answers = tt

pub refused_is_first : (bytes text : List ℕ) (result : Read) → text ≡ bytes → IsUtf8 bytes → Answers named_policy_fault result (policy_of text)
    → IfErr result (λ fault. (fault ≡ Memory) ⊎ HasFault bytes fault)
refused_is_first bytes text (Ok policy) same utf8 answers = tt
refused_is_first bytes text (Err fault) same utf8 answers = elim (refusal_is fault (policy_of text) answers) [
  | inl memory ↦ inl memory
  | inr is ↦ inr (inr (utf8, ap policy_of (sym same) ∙ is))
]
