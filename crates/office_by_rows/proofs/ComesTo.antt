-- What rows are found to say is what they come to.
use Rattle.office_by_rows.proofs.Common.{◌≡◌, ℕ, ℤ, pos, int_le, ◌≤◌, ◌≤ℤ◌, Bool, true, false, List, ◌∷◌, Option, Some, None, option_map, refl, sym, ap, ◌∙◌, rules, if◌then◌else◌, int_eq, Decides-int_eq, Date, ◌>>=◌, answer_if, Due, DepositRow, DueRow, HoldRow, Limits, RuleRow, Tables, due_numbered, hold_numbered, limits_of, live_holds, count_of, day_numbered, due_of_number, effect_of, if_any, is_between, Days, are_released_on_days, counted_hold_in, days_of, decision_by, decision_for, first_hold, hold_by, is_rule, least_hold_in, scope_of, told_hold}
use Rattle.office_core.specs.Bounds.{max_rules}
use Rattle.office_core.specs.Names.{is_matter}
use Rattle.office_core.specs.declared.action.Action.TheVariants as acts
use Rattle.office_core.specs.declared.answer.LiveHold.{LiveHold}
use Rattle.office_core.specs.declared.rule.Decision.{Decision}
use Rattle.office_by_rows.specs.Refusals.{disposal_facts}
use Rattle.office_core.proofs.OptionLemmas.{some_and_then, option_map_some}
use Rattle.std.proofs.lemmas.Bool.{false_from_ne_true}

-- ---- the rules

pub between : (least most number : ℤ) → least ≤ℤ number → number ≤ℤ most → is_between least most number ≡ true
between least most number low high = search (rules, low, high)

pub place_is : (place : ℤ) (rule : ℕ) → pos rule ≡ place → 1 ≤ rule → rule ≤ max_rules → is_between (pos 1) (pos max_rules) place ≡ true
place_is place rule is low high = ap (is_between (pos 1) (pos max_rules)) (sym is) ∙ between (pos 1) (pos max_rules) (pos rule) (search (rules, low)) (search (rules, high))

-- what the row of a rule says is what it comes to
pub decision_is : (row : RuleRow) (decision : Decision) → is_rule row ≡ true → pos decision.rule ≡ row.place → effect_of row.effect ≡ Some decision.effect → decision_by row ≡ Some decision
decision_is row decision is place effect =
    ap (λ b. if b then (count_of row.place >>= λ rule. effect_of row.effect >>= λ effect. Some (record { rule = rule; effect = effect })) else None) is
    ∙ (λ i. count_of (sym place i) >>= λ rule. effect i >>= λ effect. Some (record { rule = rule; effect = effect }))

-- ---- a deposit

-- the days of a deposit's row
module _ (row : DepositRow) where
  abbrev days_by : Bool → Option Date → Option Date → Option (Option Date) → Option Days
  days_by in_turn closed deposited gone = if in_turn then (closed >>= λ closed. deposited >>= λ deposited. gone >>= λ gone. Some (record { closed = closed; deposited = deposited; gone = gone })) else None

  pub days_read : (days : Days) → row.closed ≤ℤ row.deposited → day_numbered row.closed ≡ Some days.closed → day_numbered row.deposited ≡ Some days.deposited → if_any day_numbered row.gone ≡ Some days.gone → days_of row ≡ Some days
  days_read days in_turn closed deposited gone = let turn : int_le row.closed row.deposited ≡ true = search (rules, in_turn) in λ i. days_by (turn i) (closed i) (deposited i) (gone i)

  no_gone : (in_turn : Bool) (closed deposited : Option Date) → days_by in_turn closed deposited None ≡ None
  no_gone false closed deposited = refl
  no_gone true None deposited = refl
  no_gone true (Some closed) None = refl
  no_gone true (Some closed) (Some deposited) = refl

  pub no_days : if_any day_numbered row.gone ≡ None → days_of row ≡ None
  no_days none = ap (days_by (int_le row.closed row.deposited) (day_numbered row.closed) (day_numbered row.deposited)) none ∙ no_gone (int_le row.closed row.deposited) (day_numbered row.closed) (day_numbered row.deposited)

-- ---- holds

pub hold_told : (row : HoldRow) (told : LiveHold) → pos told.number ≡ row.number → scope_of row.deposit row.collection row.class ≡ Some told.on → day_numbered row.placed ≡ Some told.placed → told.matter ≡ row.matter → is_matter row.matter ≡ true → hold_by row ≡ Some told
hold_told row told number on placed matter kind =
    (λ i. count_of (sym number i) >>= λ number. on i >>= λ on. placed i >>= λ placed. answer_if (kind i) (record { number = number; matter = row.matter; on = on; placed = placed }))
    ∙ ap (λ m. Some (record { number = told.number; matter = m; on = told.on; placed = told.placed })) (sym matter)

module _ (n : ℕ) (collection class : List ℕ) where
  -- the first, where its row tells of a hold
  first_read : (t : Tables) (k : ℕ) (others : List ℤ) (told : LiveHold) → told_hold t (pos k) ≡ Some told → first_hold t (pos k ∷ others) ≡ Some k
  first_read t k others told is = let (row, there, read) = some_and_then (hold_numbered (pos k) t.holds) hold_by told is in rw (there, read) refl

  pub least_read : (t : Tables) (k : ℕ) (others : List ℤ) (told : LiveHold) → are_released_on_days n collection class t ≡ true → live_holds (pos n) collection class t ≡ pos k ∷ others → told_hold t (pos k) ≡ Some told → least_hold_in t n collection class ≡ Some k
  least_read t k others told released live is = ap (λ b. if b then first_hold t (live_holds (pos n) collection class t) else None) released ∙ ap (first_hold t) live ∙ first_read t k others told is

  not_0 : (count : ℤ) → (count ≡ pos 0 → ⊥) → int_eq count (pos 0) ≡ false
  not_0 count some = false_from_ne_true (int_eq count (pos 0)) (λ e. some ((Decides-int_eq count (pos 0)).0 e))

  -- the least, where the count is one that an office keeps
  pub counted_read : (t : Tables) (count : ℤ) (k : ℕ) → (count ≡ pos 0 → ⊥) → option_map (λ (limits : Limits). is_between (pos 1) limits.max_holds count) (limits_of t) ≡ Some true → least_hold_in t n collection class ≡ Some k
      → counted_hold_in t count n collection class ≡ Some (Some k)
  counted_read t count k some kept least =
      rw (not_0 count some) (option_map_some (λ (limits : Limits). is_between (pos 1) limits.max_holds count) (limits_of t) true kept (λ limits there same. rw (there, same, least) refl))

-- ---- a disposal

-- what is read one after another is what the facts come to
pub facts_told : (t : Tables) (role : List ℕ) (day : Date) (n : ℕ) (row : DepositRow) (days : Days) (decision : Option Decision) (due_row : DueRow) (due : Due) (hold : Option ℕ)
    → days_of row ≡ Some days → decision_for t role day acts.Dispose (Some row.collection) (Some row.class) ≡ Some decision → due_numbered (pos n) t.dues ≡ Some due_row → due_of_number due_row.due ≡ Some due → counted_hold_in t due_row.holds n row.collection row.class ≡ Some hold
    → disposal_facts t role day n row ≡ Some (record { action = acts.Dispose; decision = decision; gone = days.gone; hold = hold; due = due })
facts_told t role day n row days decision due_row due hold days_are decided there due_is held =
    (λ i. days_are i >>= λ days. decided i >>= λ decision. there i >>= λ (due_row : DueRow). due_of_number due_row.due >>= λ due. counted_hold_in t due_row.holds n row.collection row.class >>= λ hold. Some (record { action = acts.Dispose; decision = decision; gone = days.gone; hold = hold; due = due }))
    ∙ (λ i. due_is i >>= λ due. held i >>= λ hold. Some (record { action = acts.Dispose; decision = decision; gone = days.gone; hold = hold; due = due }))
