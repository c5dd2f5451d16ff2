-- What may be found after a run.
use Rattle.office_engine.proofs.Common.{◌≡◌, ◌≢◌, ◌⊎◌, inl, inr, ℕ, zero, suc, List, [], ◌∷◌, ◌++◌, All, drop, refl, sym, subst, ◌∙◌, All-head, All-tail, Answer, History, Change, change, IsLater, Item, Run, grown_by_none, IsFoundAfter, IsFailure}
use Rattle.office_core.specs.declared.answer.Answer.TheVariants.{Refused}
use Rattle.office_core.specs.declared.refusal.Refusal.TheVariants.{Memory, Store}

pub failure_or : (given : Answer) → IsFailure given ⊎ (IsFailure given → ⊥)
failure_or (Refused Memory) = inl tt
failure_or (Refused Store) = inl tt
failure_or _ = inr (λ none. none)

pub changes_or : (changes : List Change) → (changes ≡ []) ⊎ (changes ≢ [])
changes_or [] = inl refl
changes_or (c ∷ changes) = inr (λ e. absurd (let same = e in cc))

-- it has what the answers tell of
pub found_later : (h found : History) (items : List Item) (given : List Answer) → IsFoundAfter h items given found → (told : History) × Run h items given told × IsLater told found
found_later h found items given after = elim after.is_found [
  | inl same ↦ (after.told, after.run, ([], same ∙ grown_by_none after.told))
  | inr adds ↦ (after.told, after.run, (change after.told adds.item.0 adds.item.1.now adds.item.2, adds.added))
]

none_dropped : (count : ℕ) (item : Item) (rest : List Item) → drop count [] ≡ item ∷ rest → ⊥
none_dropped zero item rest e = absurd (let same = e in cc)
none_dropped (suc count) item rest e = absurd (let same = e in cc)

all_last : (given : List Answer) (last : Answer) → All IsFailure (given ++ last ∷ []) → IsFailure last
all_last [] last all = All-head IsFailure last [] all
all_last (g ∷ given) last all = all_last given last (All-tail IsFailure g (given ++ last ∷ []) all)

-- where an item and all after it failed, so did the last
last_failed : (h next : History) (items : List Item) (given : List Answer) (last : Answer) (count : ℕ) (item : Item) (rest : List Item) → Run h items (given ++ last ∷ []) next → drop count items ≡ item ∷ rest
    → All IsFailure (drop count (given ++ last ∷ [])) → IsFailure last
last_failed h next items given last zero item rest run is all = all_last given last all
last_failed h next [] given last (suc count) item rest run is all = absurd (none_dropped (suc count) item rest is)
last_failed h next (i ∷ []) [] last (suc count) item rest run is all = absurd (none_dropped count item rest is)
last_failed h next (i ∷ j ∷ items) [] last (suc count) item rest run is all = absurd run.2
last_failed h next (i ∷ items) (g ∷ given) last (suc count) item rest run is all = last_failed run.0 next items given last count item rest run.2 is all

pub found_exact : (h found : History) (items : List Item) (given : List Answer) (last : Answer) → IsFoundAfter h items (given ++ last ∷ []) found → (IsFailure last → ⊥) → Run h items (given ++ last ∷ []) found
found_exact h found items given last after answered = elim after.is_found [
  | inl same ↦ subst (λ (x : History). Run h items (given ++ last ∷ []) x) (sym same) after.run
  | inr adds ↦ absurd (answered (last_failed h after.told items given last adds.count adds.item adds.rest after.run adds.is_item adds.failed))
]
