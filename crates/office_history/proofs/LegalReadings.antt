-- Legal histories: their policies are made of names, and what isn't there was neither destroyed nor released.
use Rattle.office_history.proofs.FirstLemmas.{◌≡◌, ℕ, ◌==◌, [], ◌∷◌, Some, None, unwrap_or, refl, sym, ap, subst, ◌∙◌, if◌then◌else◌, option_or, Decides-eqb, first_said, last_said, History, Change, Installed, ReleasedHold, Destroyed, installed_in, policy, deposit_numbered, destroyed_in, destruction_day, hold_numbered, released_in, release_day, PolicyValue, IsPolicy, IsChange, IsAllowed, IsLegal, legal_by, policy_grown, gone_grown, released_grown, no_deposit_before, no_hold_before}
use Rattle.office_core.proofs.PolicyNames.{no_policy_is_policy}
use Rattle.office_history.proofs.Common.{by_Bool}

not_that : {A : Type 0} (a b : ℕ) (x : A) → (a ≡ b → ⊥) → option_or (if a == b then Some x else None) None ≡ None
not_that a b x other = by_Bool (a == b) (λ same. absurd (other ((Decides-eqb a b).0 same))) (λ apart. rw apart refl)

-- a change that is allowed destroys no deposit, and releases no hold, that isn't there
not_destroyed : (x : History) (n : ℕ) (c : Change) → deposit_numbered x n ≡ None → IsAllowed x c → first_said (destroyed_in n) (c ∷ []) ≡ None
not_destroyed x n (Destroyed day m) none allowed =
    not_that m n day (λ same. let wrong : Some allowed.found ≡ None = sym allowed.there ∙ ap (deposit_numbered x) same ∙ none in absurd cc)
not_destroyed x n _ none allowed = refl

not_released : (x : History) (k : ℕ) (c : Change) → hold_numbered x k ≡ None → IsAllowed x c → first_said (released_in k) (c ∷ []) ≡ None
not_released x k (ReleasedHold day j) none allowed =
    not_that j k day (λ same. let wrong : Some allowed.found ≡ None = sym allowed.there ∙ ap (hold_numbered x) same ∙ none in absurd cc)
not_released x k _ none allowed = refl

-- no hold, and no deposit, has the number 0
abbrev pub NoneGone : History → Type 0
NoneGone h = (n : ℕ) → deposit_numbered h n ≡ None → destruction_day h n ≡ None

pub none_gone : (h : History) → IsLegal h → NoneGone h
none_gone h legal =
    legal_by NoneGone (λ a b a_in b_in n e. refl) (λ x c was ok so n e.
    let earlier = no_deposit_before x (c ∷ []) n e in
    gone_grown x (c ∷ []) n ∙ (λ i. option_or (so n earlier i) (not_destroyed x n c earlier ok.1 i))) h legal

abbrev pub NoneReleased : History → Type 0
NoneReleased h = (k : ℕ) → hold_numbered h k ≡ None → release_day h k ≡ None

pub none_released : (h : History) → IsLegal h → NoneReleased h
none_released h legal =
    legal_by NoneReleased (λ a b a_in b_in k e. refl) (λ x c was ok so k e.
    let earlier = no_hold_before x (c ∷ []) k e in
    released_grown x (c ∷ []) k ∙ (λ i. option_or (so k earlier i) (not_released x k c earlier ok.1 i))) h legal

installed_policy : (before : PolicyValue) (c : Change) → IsChange c → IsPolicy before → IsPolicy (unwrap_or (last_said installed_in (c ∷ [])) before)
installed_policy before (Installed policy) ranged is = ranged
installed_policy before _ ranged is = is

pub legal_policy : (h : History) → IsLegal h → IsPolicy (policy h)
legal_policy h legal =
    legal_by (λ x. IsPolicy (policy x)) (λ a b a_in b_in. no_policy_is_policy) (λ x c was ok is. subst IsPolicy (sym (policy_grown x (c ∷ []))) (installed_policy (policy x) c ok.0 is)) h legal
