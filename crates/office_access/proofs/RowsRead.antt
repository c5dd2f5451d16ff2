-- What is read of rows, one reading after another, is what the functions over rows say.
use Rattle.office_access.proofs.Common.{◌≡◌, ℕ, ℤ, pos, ◌&&◌, ◌||◌, not, Bool, true, false, List, [], ◌∷◌, map, length, Option, Some, None, Result, Ok, Err, OnOk, option_map, refl, sym, ap, subst, ◌∙◌, arith, if◌then◌else◌, list_all, list_any, ok_or, or_parts, ints, Date, max_rules, IsDayNumber, first_day_number, last_day_number, ◌>>=◌, Decision, HoldRow, RuleRow, Tables, live_holds, count_of, if_any, is_action_pattern, is_between, is_pattern, are_released_on_days, decision_for, denial_for, is_day_or_none, is_over, is_rule, count_in, are_bounds, asks_as_rules_do, between}
use Rattle.std.proofs.lemmas.List.{length-map}
use Rattle.office_core.specs.Verdicts.{denial_verdict}
use Rattle.office_core.specs.declared.action.Action.{Action}
use Rattle.office_history.specs.Refusals.{refusal_in}
use Rattle.office_tables.specs.Releases.{is_outside, is_outside_of}
use Rattle.office_tables.specs.Releases as tables

-- what was found is what is there
pub some_read : {T E : Type 0} (found : Option T) (fault : E) (x : T) → Ok x ≡ ok_or found fault → found ≡ Some x
some_read None fault x e = absurd cc
some_read (Some y) fault x e = cc

-- a count is that of its number
pub count_back : (count : Option ℕ) → if_any count_of (option_map pos count) ≡ Some count
count_back None = refl
count_back (Some n) = refl

-- numbers of rows that are alike
pub same_count : (m n : ℕ) → pos m ≡ pos n → m ≡ n
same_count m n e = cc

-- the refusal by the rule that decides
pub denial_read : (t : Tables) (role : List ℕ) (day : Date) (action : Action) (collection class : Option (List ℕ)) (decision : Option Decision) → decision_for t role day action collection class ≡ Some decision
    → denial_for t role day action collection class ≡ Some (refusal_in (denial_verdict decision))
denial_read t role day action collection class decision = ap (λ o. o >>= λ decision. Some (refusal_in (denial_verdict decision)))

-- ---- the rules

grouped : (a b c d e : Bool) → (a && (b && (c && d)) && e) ≡ (a && (b && (c && (d && e))))
grouped true true true d e = refl
grouped true true false d e = refl
grouped true false c d e = refl
grouped false b c d e = refl

-- it is of a place of a policy, and asks what rules do, by days of the office in turn
pub rule_is : (row : RuleRow) → (is_between (pos 1) (pos max_rules) row.place && (asks_as_rules_do row && are_bounds row.first row.last)) ≡ is_rule row
rule_is row = ap (λ b. is_between (pos 1) (pos max_rules) row.place && b) (grouped (is_pattern row.role) (is_action_pattern row.action) (is_pattern row.collection) (is_pattern row.class) (are_bounds row.first row.last))

-- ---- the holds over a deposit

module _ (n : ℕ) (collection class : List ℕ) where
  on_day : (over : Bool) (released : Option ℤ) → (over && is_outside first_day_number last_day_number released) ≡ false → (not over || is_day_or_none released) ≡ true
  on_day false released none = refl
  on_day true None none = refl
  on_day true (Some day) none = let is : IsDayNumber day = grind (arith, ints, none) in between first_day_number last_day_number day is.0 is.1

  -- none of them was released outside of the days of the office
  pub released_read : (holds : List HoldRow) → list_any (is_outside_of (tables.is_over (pos n) collection class) first_day_number last_day_number) holds ≡ false → list_all (λ h. not (is_over n collection class h) || is_day_or_none h.released) holds ≡ true
  released_read [] none = refl
  released_read (h ∷ holds) none =
      let parts = or_parts (is_outside_of (tables.is_over (pos n) collection class) first_day_number last_day_number h) (list_any (is_outside_of (tables.is_over (pos n) collection class) first_day_number last_day_number) holds) none in
      λ i. on_day (is_over n collection class h) h.released parts.0 i && released_read holds parts.1 i

  -- how many there are
  pub count_read : (t : Tables) (numbers : List ℕ) → are_released_on_days n collection class t ≡ true → map pos numbers ≡ live_holds (pos n) collection class t → count_in t n collection class ≡ Some (length numbers)
  count_read t numbers released live = ap (λ b. if b then Some (length (live_holds (pos n) collection class t)) else None) released ∙ ap Some (sym (ap length live) ∙ length-map numbers pos)

-- ---- what is asked of a count

-- a test that has to pass did where the call is Ok
pub if_kept : {E : Type 0} (test : Bool) (fault : E) (result : Result (Unit {0}) E) → result ≡ (if test then Ok tt else Err fault) → OnOk result (test ≡ true)
if_kept true fault result is = subst (λ r. OnOk r (true ≡ true)) (sym is) refl
if_kept false fault result is = subst (λ r. OnOk r (false ≡ true)) (sym is) tt
