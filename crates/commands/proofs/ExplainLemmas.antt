-- What is said of a policy file is one thing.
use Rattle.commands.proofs.Common.{◌≡◌, ◌⊎◌, ◌∙◌, ℕ, List, Option, Some, None, Result, Ok, Err, IfOk, ap, inl, inr, refl, sym, string_bytes, subst, unwrap_or, AllocError, Date, PolicyValue, PolicyFault, Allow, Deny, Explains, allowed, denied, by_default, undated, refused, HasFault, IsOnDay, SaysBadPolicy, SaysDayMissing, SaysDecision, SaysRule, SpellsPolicyBytes, WantsDay, bad_policy_text, decision_on, question_on, unlisted_line, Outcome, IsPolicyRefused}
use Rattle.std.proofs.lemmas.Bool.{false≢true}
use Rattle.std.proofs.lemmas.Option.{none-some}
use Rattle.office_core.specs.declared.rule.Decision.{Decision}
use Rattle.office_core.specs.declared.rule.Effect.{Effect}
use Rattle.commands.specs.declared.asked.Asked.{Asked}
use Rattle.commands.specs.declared.ending.Ending.TheVariants.{Refused}
use Rattle.commands.specs.declared.policy_file.RefusedPolicy.{RefusedPolicy}
use Rattle.commands.specs.Printing.{IsAnswer, Prints}
use Rattle.commands.proofs.DayLemmas.{alike_on_each_day}

abbrev Answer : Type 0
Answer = Result Outcome AllocError

-- what is said on a policy where this decides
abbrev SaysOn : PolicyValue → Asked → Option Decision → Outcome → Type 0
SaysOn policy asked decision outcome = SaysDecision policy (unlisted_line policy asked.caller.now) decision outcome

-- ---- what the steps say

by_rule : (bytes : List ℕ) (asked : Asked) (outcome : Outcome) (policy : PolicyValue) (day : Date) (rule : ℕ) (effect : Effect) → SpellsPolicyBytes bytes policy → IsOnDay bytes asked day
    → decision_on policy asked day ≡ Some (record { rule = rule; effect = effect }) → SaysRule policy (unlisted_line policy asked.caller.now) rule effect outcome → Explains bytes asked outcome
by_rule bytes asked outcome policy day rule Allow spells on by says = allowed policy day rule spells on by says
by_rule bytes asked outcome policy day rule Deny spells on by says = denied policy day rule spells on by says

by_decision : (bytes : List ℕ) (asked : Asked) (outcome : Outcome) (policy : PolicyValue) (day : Date) (decision : Option Decision) → SpellsPolicyBytes bytes policy → IsOnDay bytes asked day
    → decision_on policy asked day ≡ decision → SaysOn policy asked decision outcome → Explains bytes asked outcome
by_decision bytes asked outcome policy day None spells on by says = by_default policy day spells on by says
by_decision bytes asked outcome policy day (Some decision) spells on by says = by_rule bytes asked outcome policy day decision.rule decision.effect spells on by says

pub policy_is_explained : (bytes : List ℕ) (asked : Asked) (policy : PolicyValue) (day : Date) (r : Answer) → SpellsPolicyBytes bytes policy → IsOnDay bytes asked day
    → IfOk r (SaysOn policy asked (decision_on policy asked day)) → IfOk r (Explains bytes asked)
policy_is_explained bytes asked policy day (Err e) of on says = tt
policy_is_explained bytes asked policy day (Ok outcome) of on says = by_decision bytes asked outcome policy day (decision_on policy asked day) of on refl says

pub missing_day_is_explained : (bytes : List ℕ) (asked : Asked) (policy : PolicyValue) (r : Answer) → SpellsPolicyBytes bytes policy → WantsDay bytes asked → IfOk r SaysDayMissing
    → IfOk r (Explains bytes asked)
missing_day_is_explained bytes asked policy (Err e) of wants says = tt
missing_day_is_explained bytes asked policy (Ok outcome) of wants says = undated policy of wants says

pub refusal_is_explained : (bytes : List ℕ) (asked : Asked) (refusal : RefusedPolicy) (r : Answer) → IsPolicyRefused bytes refusal
    → IfOk r (λ outcome. Prints outcome (bad_policy_text refusal.fault) (Some (string_bytes refusal.reason)) Refused) → IfOk r (Explains bytes asked)
refusal_is_explained bytes asked refusal (Err e) is prints = tt
refusal_is_explained bytes asked refusal (Ok outcome) is prints = refused refusal.fault is.fault (string_bytes refusal.reason, is.reason, prints)

-- ---- only one thing is said

same_policy : (bytes : List ℕ) (a b : PolicyValue) → SpellsPolicyBytes bytes a → SpellsPolicyBytes bytes b → a ≡ b
same_policy bytes a b of of_too =
    let read : Result PolicyValue PolicyFault = Ok a in
    let same : read ≡ Ok b = sym of.read ∙ of_too.read in
    cc

never_both : (bytes : List ℕ) (policy : PolicyValue) (fault : PolicyFault) → SpellsPolicyBytes bytes policy → HasFault bytes fault → ⊥
never_both bytes policy fault of (inl (none, is)) = none of.utf8
never_both bytes policy fault of (inr (utf8, is)) = let same : Ok policy ≡ Err fault = sym of.read ∙ is in cc

same_fault : (bytes : List ℕ) (a b : PolicyFault) → HasFault bytes a → HasFault bytes b → a ≡ b
same_fault bytes a b (inl (none, is)) (inl (none_too, is_too)) = is ∙ sym is_too
same_fault bytes a b (inl (none, is)) (inr (utf8, is_too)) = absurd (none utf8)
same_fault bytes a b (inr (utf8, is)) (inl (none, is_too)) = absurd (none utf8)
same_fault bytes a b (inr (utf8, is)) (inr (utf8_too, is_too)) = let read : Result PolicyValue PolicyFault = Err a in let same : read ≡ Err b = sym is ∙ is_too in cc

-- it is asked on one day, or it is the same on each
same_decision : (bytes : List ℕ) (asked : Asked) (policy : PolicyValue) (day other : Date) → SpellsPolicyBytes bytes policy → IsOnDay bytes asked day → IsOnDay bytes asked other
    → decision_on policy asked day ≡ decision_on policy asked other
same_decision bytes asked policy day other of (is, inr without) (is_too, named) = alike_on_each_day bytes policy (question_on policy asked day) day other of without is is_too
same_decision bytes asked policy day other of (is, inl named) (is_too, inr without) = alike_on_each_day bytes policy (question_on policy asked day) day other of without is is_too
same_decision bytes asked policy day other of (is, inl named) (is_too, inl named_too) =
    ap (decision_on policy asked) (ap (λ o. unwrap_or o day) (sym named ∙ named_too))

-- a question that is asked on a day wants none
never_undated : (bytes : List ℕ) (asked : Asked) (day : Date) → IsOnDay bytes asked day → WantsDay bytes asked → ⊥
never_undated bytes asked day (is, inl named) wants = none-some day (sym wants.0 ∙ named)
never_undated bytes asked day (is, inr without) wants = false≢true (sym without ∙ wants.1)

decision_here : (bytes : List ℕ) (asked : Asked) (outcome : Outcome) (policy found : PolicyValue) (day other : Date) (decision : Option Decision) → SpellsPolicyBytes bytes found → SpellsPolicyBytes bytes policy
    → IsOnDay bytes asked other → IsOnDay bytes asked day → decision_on found asked other ≡ decision → SaysOn found asked decision outcome
    → SaysOn policy asked (decision_on policy asked day) outcome
decision_here bytes asked outcome policy found day other decision of of_too on on_too by says =
    let here : SaysOn found asked (decision_on found asked day) outcome =
    subst (λ (d : Option Decision). SaysOn found asked d outcome) (sym by ∙ same_decision bytes asked found other day of on on_too) says in
    subst (λ (p : PolicyValue). SaysOn p asked (decision_on p asked day) outcome) (same_policy bytes found policy of of_too) here

says_decision : (bytes : List ℕ) (asked : Asked) (outcome : Outcome) (policy : PolicyValue) (day : Date) → SpellsPolicyBytes bytes policy → IsOnDay bytes asked day → Explains bytes asked outcome
    → SaysOn policy asked (decision_on policy asked day) outcome
says_decision bytes asked outcome policy day of on (allowed found other rule found_of found_on by prints) =
    decision_here bytes asked outcome policy found day other (Some (record { rule = rule; effect = Allow })) found_of of found_on on by prints
says_decision bytes asked outcome policy day of on (denied found other rule found_of found_on by prints) =
    decision_here bytes asked outcome policy found day other (Some (record { rule = rule; effect = Deny })) found_of of found_on on by prints
says_decision bytes asked outcome policy day of on (by_default found other found_of found_on by prints) =
    decision_here bytes asked outcome policy found day other None found_of of found_on on by prints
says_decision bytes asked outcome policy day of on (undated found found_of wants prints) = absurd (never_undated bytes asked day on wants)
says_decision bytes asked outcome policy day of on (refused fault has prints) = absurd (never_both bytes policy fault of has)

-- the decision on the policy of the file is what is said
pub decision_is_said : (bytes : List ℕ) (asked : Asked) (r : Answer) → IfOk r (Explains bytes asked) → (policy : PolicyValue) (day : Date) (decision : Option Decision) → SpellsPolicyBytes bytes policy
    → IsOnDay bytes asked day → decision_on policy asked day ≡ decision → IfOk r (SaysOn policy asked decision)
decision_is_said bytes asked (Err e) explains policy day decision of on is = tt
decision_is_said bytes asked (Ok outcome) explains policy day decision of on is =
    subst (λ (d : Option Decision). SaysOn policy asked d outcome) is (says_decision bytes asked outcome policy day of on explains)

says_missing : (bytes : List ℕ) (asked : Asked) (outcome : Outcome) (policy : PolicyValue) → SpellsPolicyBytes bytes policy → WantsDay bytes asked → Explains bytes asked outcome → SaysDayMissing outcome
says_missing bytes asked outcome policy of wants (allowed found day rule found_of on by prints) = absurd (never_undated bytes asked day on wants)
says_missing bytes asked outcome policy of wants (denied found day rule found_of on by prints) = absurd (never_undated bytes asked day on wants)
says_missing bytes asked outcome policy of wants (by_default found day found_of on by prints) = absurd (never_undated bytes asked day on wants)
says_missing bytes asked outcome policy of wants (undated found found_of wants_too says) = says
says_missing bytes asked outcome policy of wants (refused fault has prints) = absurd (never_both bytes policy fault of has)

-- that a day is missing is said where it is
pub missing_day_is_said : (bytes : List ℕ) (asked : Asked) (r : Answer) → IfOk r (Explains bytes asked) → (policy : PolicyValue) → SpellsPolicyBytes bytes policy → WantsDay bytes asked
    → IfOk r SaysDayMissing
missing_day_is_said bytes asked (Err e) explains policy of wants = tt
missing_day_is_said bytes asked (Ok outcome) explains policy of wants = says_missing bytes asked outcome policy of wants explains

says_fault : (bytes : List ℕ) (asked : Asked) (outcome : Outcome) (fault : PolicyFault) → HasFault bytes fault → Explains bytes asked outcome → SaysBadPolicy bytes fault outcome
says_fault bytes asked outcome fault has (allowed found day rule found_of on by prints) = absurd (never_both bytes found fault found_of has)
says_fault bytes asked outcome fault has (denied found day rule found_of on by prints) = absurd (never_both bytes found fault found_of has)
says_fault bytes asked outcome fault has (by_default found day found_of on by prints) = absurd (never_both bytes found fault found_of has)
says_fault bytes asked outcome fault has (undated found found_of wants says) = absurd (never_both bytes found fault found_of has)
says_fault bytes asked outcome fault has (refused other has_too prints) =
    subst (λ (f : PolicyFault). SaysBadPolicy bytes f outcome) (same_fault bytes other fault has_too has) prints

-- and so is the file's fault
pub fault_is_said : (bytes : List ℕ) (asked : Asked) (r : Answer) → IfOk r (Explains bytes asked) → (fault : PolicyFault) → HasFault bytes fault
    → IfOk r (SaysBadPolicy bytes fault)
fault_is_said bytes asked (Err e) explains fault has = tt
fault_is_said bytes asked (Ok outcome) explains fault has = says_fault bytes asked outcome fault has explains

-- ---- how it ends

-- an answer is yes or no, unless no day is named
pub answers_dated : (bytes : List ℕ) (asked : Asked) (outcome : Outcome) → Explains bytes asked outcome → IsAnswer outcome.ending ⊎ (asked.day ≡ None)
answers_dated bytes asked outcome (allowed found day rule found_of on by prints) = inl (inl prints.2)
answers_dated bytes asked outcome (denied found day rule found_of on by prints) = inl (inr prints.2)
answers_dated bytes asked outcome (by_default found day found_of on by prints) = inl (inr prints.2)
answers_dated bytes asked outcome (undated found found_of wants says) = inr wants.0
answers_dated bytes asked outcome (refused fault has says) = inl (inr says.2.2)
