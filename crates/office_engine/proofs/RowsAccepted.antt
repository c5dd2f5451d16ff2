-- An answer that tells of no change leaves the rows and the contents as they were, whichever they are.
use Rattle.office_engine.proofs.Common.{◌≡◌, ℕ, true, false, Option, Some, None, option_map, refl, sym, ap, ◌∙◌, true≢false, same_Some, ◌>>=◌, Answer, Refusal, Request, DefineClass, DefineCollection, Deposit, HoldDeposit, HoldCollection, HoldClass, Release, Dispose, Tables, Visit, allowed_rows, highest_deposit, highest_hold, number_after, serve, serve_unless, Contents, Rows, contents_after, serve_rows, is_accepted, allowed_answer, refusal}
use Rattle.office_core.specs.declared.answer.Answer.TheVariants as answers
use Rattle.office_engine.proofs.StepsByRows.{served_parts}

-- two, where both come to something
abbrev pub both : {A B : Type 0} → Option A → Option B → Option (A × B)
both one other = one >>= λ x. other >>= λ y. Some (x, y)

pub both_told : {A B : Type 0} (one : Option A) (other : Option B) (a : A) (b : B) → both one other ≡ Some (a, b) → (one ≡ Some a) × (other ≡ Some b)
both_told {A = A} {B = B} (Some x) (Some y) a b e = let same = same_Some _ _ e in (ap (λ (p : A × B). Some p.0) same, ap (λ (p : A × B). Some p.1) same)
both_told _ _ a b e = absurd cc

contents_stay : (t : Tables) (request : Request) (given : Answer) → is_accepted given ≡ false → (k : Contents) → contents_after t request given k ≡ k
contents_stay t request (answers.Deposited n) none k = absurd (true≢false none)
contents_stay t request (answers.Destroyed n day) none k = absurd (true≢false none)
contents_stay t request _ none k = refl

module _ (given : Answer) (none : is_accepted given ≡ false) where
  none_of : {P : Type 0} (answer : Answer) → is_accepted answer ≡ true → Some answer ≡ Some given → P
  none_of answer accepted is = absurd (true≢false (sym accepted ∙ ap is_accepted (same_Some _ _ is) ∙ none))

  none_numbered : {P : Type 0} (told : ℕ → Answer) → ((n : ℕ) → is_accepted (told n) ≡ true) → (number : Option ℕ) → option_map told number ≡ Some given → P
  none_numbered told accepted None is = absurd cc
  none_numbered told accepted (Some n) is = none_of (told n) (accepted n) is

  none_changed : (t : Tables) (visit : Visit) (request : Request) → allowed_answer t visit request ≡ Some given → allowed_rows t visit request ≡ Some t
  none_changed t visit (DefineClass name years) is = none_of (answers.Class name years) refl is
  none_changed t visit (DefineCollection name) is = none_of (answers.Collection name) refl is
  none_changed t visit (Deposit description bag) is = none_numbered answers.Deposited (λ n. refl) (number_after (highest_deposit t)) is
  none_changed t visit (HoldDeposit n matter) is = none_numbered answers.HoldPlaced (λ n. refl) (number_after (highest_hold t)) is
  none_changed t visit (HoldCollection name matter) is = none_numbered answers.HoldPlaced (λ n. refl) (number_after (highest_hold t)) is
  none_changed t visit (HoldClass name matter) is = none_numbered answers.HoldPlaced (λ n. refl) (number_after (highest_hold t)) is
  none_changed t visit (Release k) is = none_of (answers.HoldReleased k visit.day) refl is
  none_changed t visit (Dispose n) is = none_of (answers.Destroyed n visit.day) refl is
  none_changed t visit _ is = refl

  tables_stay : (t next : Tables) (visit : Visit) (request : Request) → serve t visit request ≡ Some (given, next) → next ≡ t
  tables_stay t next visit request is = by (refusal t visit request) is
    where
      by : (refused : Option (Option Refusal)) → (refused >>= λ stands. serve_unless stands t visit request) ≡ Some (given, next) → next ≡ t
      by None e = absurd cc
      by (Some (Some why)) e = ap (λ (p : Answer × Tables). p.1) (sym (same_Some _ _ e))
      by (Some None) e = let told = both_told (allowed_answer t visit request) (allowed_rows t visit request) given next e in same_Some _ _ (sym told.1 ∙ none_changed t visit request told.0)

  pub rows_stay : (r next : Rows) (visit : Visit) (request : Request) → serve_rows r visit request ≡ Some (given, next) → next ≡ r
  rows_stay r next visit request is =
      let parts = served_parts r visit request given next is in
      parts.2 ∙ (λ i. record { tables = tables_stay r.tables next.tables visit request parts.0 i; contents = contents_stay r.tables request given none r.contents i })
