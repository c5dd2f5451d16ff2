-- What an answer says of a text, where it is what reading the text gives.
use Rattle.office_core.proofs.Common.{◌≡◌, ◌∙◌, ◌⊎◌, ℕ, List, Some, Result, Ok, Err, IfOk, inl, inr, refl, sym, ap, IfErr, MatchResult, first_some, Answers, FailsAs, PolicyValue, HasFirstFault, SpellsPolicy, policy_in_tree, faults, named_policy_fault, policy_of, read_tree, policy_unless, Memory}
use Rattle.toml.specs.Parse.{parse_document}
use Rattle.office_core.specs.declared.policy_fault.PolicyFault.{PolicyFault}
use Rattle.office_core.proofs.OptionLemmas.{by_Option}

abbrev Read : Type 0
Read = Result PolicyValue PolicyFault

-- ---- reading a text is the relation of its policy, or of its first fault

policy_is : (text : List ℕ) (policy : PolicyValue) → policy_of text ≡ Ok policy → SpellsPolicy text policy
policy_is text policy e =
    by_Option (parse_document text) (λ none. absurd (let read = rw none at e in cc))
    (λ tree parsed. by_Option (first_some (faults tree))
    (λ sound. let read = rw (parsed, sound) at e in record { tree = tree; parsed = parsed; sound = sound; is = cc })
    (λ fault first. absurd (let read = rw (parsed, first) at e in cc)))

fault_is : (text : List ℕ) (fault : PolicyFault) → policy_of text ≡ Err fault → HasFirstFault text fault
fault_is text fault e =
    by_Option (parse_document text) (λ none. let read = rw none at e in inl (none, cc))
    (λ tree parsed. by_Option (first_some (faults tree))
    (λ sound. absurd (let read = rw (parsed, sound) at e in cc))
    (λ found first. let read = rw (parsed, first) at e in let same : found ≡ fault = cc in inr (tree, parsed, first ∙ ap Some same)))

of_policy : (text : List ℕ) (policy : PolicyValue) → SpellsPolicy text policy → policy_of text ≡ Ok policy
of_policy text policy spells =
    ap read_tree spells.parsed ∙ ap (policy_unless (policy_in_tree spells.tree)) spells.sound ∙ ap Ok (sym spells.is)

of_fault : (text : List ℕ) (fault : PolicyFault) → HasFirstFault text fault → policy_of text ≡ Err fault
of_fault text fault (inl (none, is)) = ap read_tree none ∙ ap Err (sym is)
of_fault text fault (inr (tree, parsed, first)) = ap read_tree parsed ∙ ap (policy_unless (policy_in_tree tree)) first

-- ---- what an answer says

-- a refusal is that memory ran out, or the one that reading gives
pub refusal_is : (fault : PolicyFault) (read : Read) → FailsAs (named_policy_fault fault) read → (fault ≡ Memory) ⊎ (read ≡ Err fault)
refusal_is Memory read e = inl refl
refusal_is _ read e = inr e

pub read_is_spelled : (text : List ℕ) (result : Read) → Answers named_policy_fault result (policy_of text) → IfOk result (SpellsPolicy text)
read_is_spelled text (Ok policy) answers = policy_is text policy answers
read_is_spelled text (Err fault) answers = tt

pub refused_is_first : (text : List ℕ) (result : Read) → Answers named_policy_fault result (policy_of text)
    → IfErr result (λ fault. (fault ≡ Memory) ⊎ HasFirstFault text fault)
refused_is_first text (Ok policy) answers = tt
refused_is_first text (Err fault) answers = elim (refusal_is fault (policy_of text) answers) [
  | inl memory ↦ inl memory
  | inr first ↦ inr (fault_is text fault first)
]

pub spelled_is_read : (text : List ℕ) (result : Read) → Answers named_policy_fault result (policy_of text) → (policy : PolicyValue) → SpellsPolicy text policy
    → MatchResult result (λ read. read ≡ policy) (λ fault. fault ≡ Memory)
spelled_is_read text (Ok read) answers policy spells = let same : Ok policy ≡ Ok read = sym (of_policy text policy spells) ∙ answers in cc
spelled_is_read text (Err fault) answers policy spells = elim (refusal_is fault (policy_of text) answers) [
  | inl memory ↦ memory
  | inr first ↦ let both : Ok policy ≡ Err fault = sym (of_policy text policy spells) ∙ first in absurd cc
]

pub first_is_refused : (text : List ℕ) (result : Read) → Answers named_policy_fault result (policy_of text) → (fault : PolicyFault) → HasFirstFault text fault
    → (result ≡ Err fault) ⊎ (result ≡ Err Memory)
first_is_refused text (Ok read) answers fault has = let both : Err fault ≡ Ok read = sym (of_fault text fault has) ∙ answers in absurd cc
first_is_refused text (Err named) answers fault has = elim (refusal_is named (policy_of text) answers) [
  | inl memory ↦ inr (ap Err memory)
  | inr first ↦ let same : Err fault ≡ Err named = sym (of_fault text fault has) ∙ first in inl (sym same)
]
