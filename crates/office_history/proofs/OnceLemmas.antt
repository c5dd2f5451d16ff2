-- Numbers are given once, and released holds are not live.
use Rattle.office_history.proofs.FirstLemmas.{◌≡◌, ℕ, ◌+◌, true, false, ◌&&◌, List, [], ◌∷◌, length, Option, Some, None, slice_get, refl, sym, ap, ◌∙◌, inl, inr, ◌⊎◌, int_lt, and_parts, true≢false, Bor, Date, epoch_day, Description, allows, first_some, Decision, Due, On, Never, Held, Dispose, numbers, History, Deposit, deposits, deposit_numbered, destruction_day, due, holds, release_day, is_live, covers, live_holds, least_hold, refusal_in, refusal, of_deposit, disposal_refusals, denial_at, gone_refusal, held_refusal, not_due_refusal, answer, filter_has, has_at, by_Bool, by_Option}
use Rattle.office_core.specs.declared.action.Action.TheVariants as acts
use Rattle.office_core.specs.declared.answer.Answer.TheVariants as answers
use Rattle.office_core.specs.Verdicts as deciding
use Rattle.office_core.specs.declared.request.Request.TheVariants.{Deposit as MakeDeposit}
use Rattle.office_history.proofs.LawLemmas.{unrefused}

-- ---- numbers

-- a deposit was answered, so it was allowed
pub was_allowed : (h : History) (day : Date) (caller : List ℕ) (description : Description) (text : Bor (List ℕ)) (n : ℕ) → answer h day caller (MakeDeposit description text) ≡ answers.Deposited n → (refusal h day caller (MakeDeposit description text) ≡ None) × (length (deposits h) + 1 ≡ n)
was_allowed h day caller description text n e =
    let r = unrefused (refusal h day caller (MakeDeposit description text)) (answers.Deposited (length (deposits h) + 1)) (answers.Deposited n) e (λ r. λ wrong. absurd cc) in
    (r.0, (let same = r.1 in cc))

-- ---- released holds

-- a hold that was released is none of the live ones
pub not_among_live : (h : History) (k i n : ℕ) (day : Date) (deposit : Deposit) → release_day h k ≡ Some day → slice_get (live_holds h n deposit) i ≡ Some k → ⊥
not_among_live h k i n day deposit e at =
    let passes : (is_live h k && covers h k n deposit) ≡ true = (filter_has (λ j. is_live h j && covers h j n deposit) (numbers (length (holds h))) k (has_at (live_holds h n deposit) i k at)).1 in
    let alive : is_live h k ≡ true = (and_parts _ _ passes).0 in
    let dead : is_live h k ≡ false = rw e refl in
    true≢false (sym alive ∙ dead)

-- what the first refusal is
first_is : {A : Type 0} (o : Option A) (os : List (Option A)) (x : A) → first_some (o ∷ os) ≡ Some x → (o ≡ Some x) ⊎ (first_some os ≡ Some x)
first_is None os x e = inr e
first_is (Some y) os x e = inl e

denied_is_not_held : (d : Option Decision) (k : ℕ) → refusal_in (deciding.denial_verdict d) ≡ Some (Held k) → ⊥
denied_is_not_held None k e = absurd cc
denied_is_not_held (Some d) k e = by_Bool (allows d.effect) (λ allowed. let wrong = rw allowed at e in cc) (λ denied. let wrong = rw denied at e in cc)

gone_is_not_held : (o : Option Date) (k : ℕ) → refusal_in (deciding.gone_verdict o) ≡ Some (Held k) → ⊥
gone_is_not_held None k e = absurd cc
gone_is_not_held (Some day) k e = absurd cc

due_is_not_held : (day : Date) (d : Due) (k : ℕ) → refusal_in (deciding.due_verdict day d) ≡ Some (Held k) → ⊥
due_is_not_held day Never k e = absurd cc
due_is_not_held day (On date) k e = by_Bool (int_lt (epoch_day day) (epoch_day date)) (λ early. let wrong = rw early at e in cc) (λ past. let wrong = rw past at e in cc)

held_by : (ks : Option ℕ) (k : ℕ) → refusal_in (deciding.hold_verdict ks) ≡ Some (Held k) → ks ≡ Some k
held_by None k e = absurd cc
held_by (Some j) k e = let same : j ≡ k = cc in ap Some same

-- a disposal that is refused for a hold names the least of the live ones
pub held_least : (h : History) (day : Date) (caller : List ℕ) (n k : ℕ) (found : Date × Deposit) → deposit_numbered h n ≡ Some found → refusal h day caller (Dispose n) ≡ Some (Held k) → least_hold h n found.1 ≡ Some k
held_least h day caller n k found there e =
    elim (first_is (denial_at h day caller acts.Dispose found.1) _ (Held k) (sym (ap (λ (o : Option (Date × Deposit)). first_some (of_deposit o (disposal_refusals h day caller n))) there) ∙ e)) [
      | inl a ↦ absurd (denied_is_not_held _ k a)
      | inr b ↦ elim (first_is (gone_refusal h n) _ (Held k) b) [
        | inl a ↦ absurd (gone_is_not_held (destruction_day h n) k a)
        | inr c ↦ elim (first_is (held_refusal h n found.1) _ (Held k) c) [
          | inl a ↦ held_by (least_hold h n found.1) k a
          | inr d ↦ elim (first_is (not_due_refusal h day found.1) [] (Held k) d) [
            | inl a ↦ absurd (due_is_not_held day (due h found.1) k a)
            | inr wrong ↦ absurd cc
          ]
        ]
      ]
    ]

-- and a hold that was released refuses no disposal
pub refuses_none : (h : History) (day on : Date) (caller : List ℕ) (k n : ℕ) → release_day h k ≡ Some on → refusal h day caller (Dispose n) ≡ Some (Held k) → ⊥
refuses_none h day on caller k n dead e =
    by_Option (deposit_numbered h n) (λ none. let wrong = rw none at e in cc) (λ found is. not_among_live h k 0 n on found.1 dead (held_least h day caller n k found is e))
