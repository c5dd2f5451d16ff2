-- Rows of rules and of holds that tell nothing.
use Rattle.office_access.proofs.Common.{◌≡◌, ℕ, ℤ, pos, int_le, Bool, true, false, List, Option, Some, None, option_map, refl, ap, ◌∙◌, arith, if◌then◌else◌, and_parts, false_from_ne_true, ints, Date, IsBetween, ◌>>=◌, answer_if, is_matter, LiveHold, Decision, HoldRow, RuleRow, count_of, day_numbered, effect_of, is_between, decision_by, hold_by, is_rule, scope_of, target_named, [], inl, inr, Tables, first_hold, live_holds, are_released_on_days, least_hold_in, FindsNoHold}
use Rattle.office_core.specs.declared.answer.Scope.{Scope}
use Rattle.office_core.specs.declared.rule.Effect.{Effect}

-- ---- rules

pub is_inside : (least most number : ℤ) → is_between least most number ≡ true → IsBetween least most number
is_inside least most number e =
    let both = and_parts (int_le least number) (int_le number most) e in
    (grind (arith, ints, both.0), grind (arith, ints, both.1))

module _ (row : RuleRow) where
  abbrev decision_of : Bool → Option ℕ → Option Effect → Option Decision
  decision_of is_one rule effect = if is_one then (rule >>= λ rule. effect >>= λ effect. Some (record { rule = rule; effect = effect })) else None

  pub no_rule : (is_rule row ≡ true → ⊥) → decision_by row ≡ None
  no_rule isnt = ap (λ b. decision_of b (count_of row.place) (effect_of row.effect)) (false_from_ne_true (is_rule row) isnt)

  without_effect : (is_one : Bool) (rule : Option ℕ) → decision_of is_one rule None ≡ None
  without_effect false rule = refl
  without_effect true None = refl
  without_effect true (Some rule) = refl

  pub no_effect : effect_of row.effect ≡ None → decision_by row ≡ None
  no_effect none = ap (decision_of (is_rule row) (count_of row.place)) none ∙ without_effect (is_rule row) (count_of row.place)

-- ---- holds

-- what names nothing has no scope either
pub no_scope : (deposit : Option ℕ) (collection class : Option (List ℕ)) → target_named (option_map pos deposit) collection class ≡ None → scope_of (option_map pos deposit) collection class ≡ None
no_scope (Some n) None None e = absurd cc
no_scope (Some n) None (Some class) e = refl
no_scope (Some n) (Some collection) None e = refl
no_scope (Some n) (Some collection) (Some class) e = refl
no_scope None (Some collection) None e = absurd cc
no_scope None (Some collection) (Some class) e = refl
no_scope None None (Some class) e = absurd cc
no_scope None None None e = refl

module _ (row : HoldRow) where
  abbrev hold_of : Option ℕ → Option Scope → Option Date → Option LiveHold
  hold_of number on placed = number >>= λ number. on >>= λ on. placed >>= λ placed. answer_if (is_matter row.matter) (record { number = number; matter = row.matter; on = on; placed = placed })

  on_nothing : (number : Option ℕ) (placed : Option Date) → hold_of number None placed ≡ None
  on_nothing None placed = refl
  on_nothing (Some number) placed = refl

  pub names_nothing : scope_of row.deposit row.collection row.class ≡ None → hold_by row ≡ None
  names_nothing none = ap (λ o. hold_of (count_of row.number) o (day_numbered row.placed)) none ∙ on_nothing (count_of row.number) (day_numbered row.placed)

  for_nothing : is_matter row.matter ≡ false → (number : Option ℕ) (on : Option Scope) (placed : Option Date) → hold_of number on placed ≡ None
  for_nothing isnt None on placed = refl
  for_nothing isnt (Some number) None placed = refl
  for_nothing isnt (Some number) (Some on) None = refl
  for_nothing isnt (Some number) (Some on) (Some placed) = ap (λ b. answer_if b (record { number = number; matter = row.matter; on = on; placed = placed })) isnt

  pub no_matter : is_matter row.matter ≡ false → hold_by row ≡ None
  no_matter isnt = for_nothing isnt (count_of row.number) (scope_of row.deposit row.collection row.class) (day_numbered row.placed)

-- where no live hold is to be found over a deposit, none is the least
no_first : (released : Bool) (t : Tables) → (if released then first_hold t [] else None) ≡ None
no_first true t = refl
no_first false t = refl

pub no_least : (n : ℕ) (collection class : List ℕ) (t : Tables) → FindsNoHold n collection class t → least_hold_in t n collection class ≡ None
no_least n collection class t (inl outside) = ap (λ released. if released then first_hold t (live_holds (pos n) collection class t) else None) outside
no_least n collection class t (inr none) = ap (λ live. if are_released_on_days n collection class t then first_hold t live else None) none ∙ no_first (are_released_on_days n collection class t) t
