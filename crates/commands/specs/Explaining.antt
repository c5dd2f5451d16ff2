-- What `explain` prints of a policy file, what it prints to standard error, and how it ends.
use Rattle.std.specs.Prelude.{◌≡◌, ◌⊎◌, ℕ, ◌-◌, slice_get, Bool, true, false, List, [], ◌∷◌, ◌++◌, Option, Some, None, Ok, Err, IsUtf8, bytes_eq, codes, decimal, if◌then◌else◌}
use Rattle.std.specs.List.{list_any}
use Rattle.std.specs.Option.{option_map_or}
use Rattle.fault_words.specs.Denials.{denial_words, undecided_words}
use Rattle.fault_words.specs.FaultWords.{missing_day_words, unlisted_words}
use Rattle.fault_words.specs.PolicyReasons.{IsPolicyReason}
use Rattle.jiff.specs.Types.{Date}
use Rattle.office_core.specs.Days.{IsDay}
use Rattle.office_core.specs.FaultTexts.{policy_fault_text}
use Rattle.office_core.specs.Policies.{PolicyValue, may_have_days, policy_of, role_of}
use Rattle.office_core.specs.Rules.{Question, decision_of}
use Rattle.office_core.specs.declared.policy_fault.PolicyFault.{PolicyFault}
use Rattle.office_core.specs.declared.policy_fault.PolicyFault.TheVariants.{NotToml}
use Rattle.office_core.specs.declared.rule.Decision.{Decision}
use Rattle.office_core.specs.declared.rule.Effect.{Effect}
use Rattle.office_core.specs.declared.rule.Effect.TheVariants.{Allow, Deny}
use Rattle.commands.specs.Printing.{Prints}
use Rattle.commands.specs.declared.asked.Asked.{Asked}
use Rattle.commands.specs.declared.ending.Ending.TheVariants.{Accepted, Misused, Refused}
use Rattle.commands.specs.declared.outcome.Outcome.{Outcome}

-- ---- the texts, each a line with its end

abbrev pub allow_text : ℕ → List ℕ
allow_text rule = codes "allow rule " ++ decimal rule ++ 10 ∷ []

abbrev pub deny_text : ℕ → List ℕ
deny_text rule = codes "deny rule " ++ decimal rule ++ 10 ∷ []

abbrev pub default_text : List ℕ
default_text = codes "deny default" ++ 10 ∷ []

abbrev pub bad_policy_text : PolicyFault → List ℕ
bad_policy_text fault = codes "policy " ++ policy_fault_text fault ++ 10 ∷ []

-- ---- what is printed to standard error about the caller, a line with its end

-- the policy lists a caller of this name
abbrev pub is_caller_listed : PolicyValue → List ℕ → Bool
is_caller_listed policy name = list_any (λ caller. bytes_eq caller.name name) policy.callers

-- that the policy doesn't list the caller, where that is so
abbrev pub unlisted_line : PolicyValue → List ℕ → Option (List ℕ)
unlisted_line policy name = if is_caller_listed policy name then None else Some (unlisted_words name ++ 10 ∷ [])

-- ---- what is printed to standard error about a denial, a line with its end

-- the rule of this number, from 1
abbrev pub denial_line : PolicyValue → ℕ → List ℕ
denial_line policy number = option_map_or (λ rule. denial_words number rule ++ 10 ∷ []) (slice_get policy.rules (number - 1)) []

-- that no rule matches
abbrev pub default_line : List ℕ
default_line = undecided_words ++ 10 ∷ []

-- a line after the one before it, where there is one
abbrev pub with_line : Option (List ℕ) → List ℕ → List ℕ
with_line None line = line
with_line (Some before) line = before ++ line

-- the same after what is printed about the caller
abbrev pub denied_lines : PolicyValue → List ℕ → ℕ → List ℕ
denied_lines policy caller rule = with_line (unlisted_line policy caller) (denial_line policy rule)

abbrev pub default_lines : PolicyValue → List ℕ → List ℕ
default_lines policy caller = with_line (unlisted_line policy caller) default_line

-- ---- the file

-- the bytes are the text of this policy
pub record SpellsPolicyBytes (bytes : List ℕ) (policy : PolicyValue) : Type 0 where
  pub utf8 : IsUtf8 bytes
  pub read : policy_of bytes ≡ Ok policy

-- this is the first fault of the bytes: they are no text, or the text has it
abbrev pub HasFault : List ℕ → PolicyFault → Type 0
HasFault bytes fault = (¬ (IsUtf8 bytes) × (fault ≡ NotToml)) ⊎ (IsUtf8 bytes × (policy_of bytes ≡ Err fault))

-- ---- which rule decides

-- the question is asked on this day: on the one that is named, and on each where no rule of the policy may have days
abbrev pub IsOnDay : List ℕ → Asked → Date → Type 0
IsOnDay bytes asked day = IsDay day × ((asked.day ≡ Some day) ⊎ (may_have_days bytes ≡ false))

-- a day is missing: none is named, and rules of the policy may have days
abbrev pub WantsDay : List ℕ → Asked → Type 0
WantsDay bytes asked = (asked.day ≡ None) × (may_have_days bytes ≡ true)

-- what the rules are asked: the role is the one that the policy gives the caller
abbrev pub question_on : PolicyValue → Asked → Date → Question
question_on policy asked day =
    record { role = role_of policy asked.caller.now; action = asked.action; collection = asked.collection; class = asked.class; day = day }

abbrev pub decision_on : PolicyValue → Asked → Date → Option Decision
decision_on policy asked day = decision_of policy.rules (question_on policy asked day)

-- on this day the first rule that matches has this number, from 1, and allows
abbrev pub IsAllowedBy : PolicyValue → Asked → Date → ℕ → Type 0
IsAllowedBy policy asked day rule = decision_on policy asked day ≡ Some (record { rule = rule; effect = Allow })

-- or denies
abbrev pub IsDeniedBy : PolicyValue → Asked → Date → ℕ → Type 0
IsDeniedBy policy asked day rule = decision_on policy asked day ≡ Some (record { rule = rule; effect = Deny })

-- no rule matches
abbrev pub IsUndecided : PolicyValue → Asked → Date → Type 0
IsUndecided policy asked day = decision_on policy asked day ≡ None

-- ---- what is said

-- what is said where the policy's rule with this number decides by this effect, with what is printed to standard error in any case
abbrev pub SaysRule : PolicyValue → Option (List ℕ) → ℕ → Effect → Outcome → Type 0
SaysRule policy told rule Allow outcome = Prints outcome (allow_text rule) told Accepted
SaysRule policy told rule Deny outcome = Prints outcome (deny_text rule) (Some (with_line told (denial_line policy rule))) Refused

-- what is said where this rule decides, or none
abbrev pub SaysDecision : PolicyValue → Option (List ℕ) → Option Decision → Outcome → Type 0
SaysDecision policy told None outcome = Prints outcome default_text (Some (with_line told default_line)) Refused
SaysDecision policy told (Some decision) outcome = SaysRule policy told decision.rule decision.effect outcome

-- what is said of the bytes of a file that is none: their fault, with its reason
abbrev pub SaysBadPolicy : List ℕ → PolicyFault → Outcome → Type 0
SaysBadPolicy bytes fault outcome = (reason : List ℕ) × IsPolicyReason bytes fault reason × Prints outcome (bad_policy_text fault) (Some reason) Refused

-- what is said where a day is missing: nothing on standard output, and that it is missing
abbrev pub SaysDayMissing : Outcome → Type 0
SaysDayMissing outcome = Prints outcome [] (Some (missing_day_words ++ 10 ∷ [])) Misused

-- What is said of a file: the rule that decides, that none does, that a day is missing, or the file's fault.
pub data Explains (bytes : List ℕ) (asked : Asked) (outcome : Outcome) : Type 0 where
  allowed : (policy : PolicyValue) (day : Date) (rule : ℕ) → SpellsPolicyBytes bytes policy → IsOnDay bytes asked day → IsAllowedBy policy asked day rule → Prints outcome (allow_text rule) (unlisted_line policy asked.caller.now) Accepted → Explains bytes asked outcome
  denied : (policy : PolicyValue) (day : Date) (rule : ℕ) → SpellsPolicyBytes bytes policy → IsOnDay bytes asked day → IsDeniedBy policy asked day rule → Prints outcome (deny_text rule) (Some (denied_lines policy asked.caller.now rule)) Refused → Explains bytes asked outcome
  by_default : (policy : PolicyValue) (day : Date) → SpellsPolicyBytes bytes policy → IsOnDay bytes asked day → IsUndecided policy asked day → Prints outcome default_text (Some (default_lines policy asked.caller.now)) Refused → Explains bytes asked outcome
  undated : (policy : PolicyValue) → SpellsPolicyBytes bytes policy → WantsDay bytes asked → SaysDayMissing outcome → Explains bytes asked outcome
  refused : (fault : PolicyFault) → HasFault bytes fault → SaysBadPolicy bytes fault outcome → Explains bytes asked outcome
