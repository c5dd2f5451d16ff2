-- Who asks, which rule decides, and what is told of a deposit and of the holds over it, by the rows of an office.
use Rattle.std.specs.Prelude.{ℕ, ℤ, pos, int_le, ◌&&◌, ◌||◌, not, Bool, true, List, [], ◌∷◌, Option, Some, None, option_map, unwrap_or, codes, if◌then◌else◌}
use Rattle.std.specs.List.{list_all}
use Rattle.std.specs.Ordering.{int_eq}
use Rattle.jiff.specs.Types.{Date}
use Rattle.jiff.specs.Words.{epoch_day}
use Rattle.office_core.specs.Actions.{action_text}
use Rattle.office_core.specs.Bounds.{max_rules}
use Rattle.office_core.specs.Days.{first_day_number, last_day_number}
use Rattle.office_core.specs.FirstOf.{◌>>=◌, answer_if}
use Rattle.office_core.specs.Names.{is_name, is_matter}
use Rattle.office_core.specs.declared.action.Action.{Action}
use Rattle.office_core.specs.declared.answer.LiveHold.{LiveHold}
use Rattle.office_core.specs.declared.answer.Scope.{Scope}
use Rattle.office_core.specs.declared.answer.Scope.TheVariants as scopes
use Rattle.office_core.specs.Verdicts.{denial_verdict}
use Rattle.office_core.specs.declared.refusal.Refusal.{Refusal}
use Rattle.office_core.specs.declared.rule.Decision.{Decision}
use Rattle.office_history.specs.Histories.{Target, OnDeposit, OnCollection, OnClass}
use Rattle.office_history.specs.Refusals.{refusal_in}
use Rattle.office_rows.specs.Rows.{CallerRow, RuleRow, DepositRow, HoldRow, Tables, caller_named, hold_numbered, holds_class, holds_collection, holds_deposit, limits_of, live_holds}
use Rattle.office_rows.specs.Matching.{matching_rule}
use Rattle.office_by_rows.specs.Values.{all_told, is_between, count_of, if_any, day_numbered, is_pattern, is_action_pattern, effect_of}

-- who asks, and on which day
pub record Visit : Type 0 where
  pub day : Date
  pub caller : List ℕ

-- ---- the rules

-- the caller's role by its row, if it has one: both are names
abbrev pub role_by : List ℕ → Option (List ℕ) → Option (List ℕ)
role_by caller None = Some (codes "stranger")
role_by caller (Some role) = answer_if (is_name caller && is_name role) role

abbrev pub role_in : Tables → List ℕ → Option (List ℕ)
role_in t caller = role_by caller (option_map (λ (c : CallerRow). c.role) (caller_named caller t.callers))

-- the row may be a rule's: of a place of a policy, with patterns, and days of which the first is not after the last
abbrev pub is_rule : RuleRow → Bool
is_rule row =
    is_between (pos 1) (pos max_rules) row.place
    && (is_pattern row.role && (is_action_pattern row.action && (is_pattern row.collection && (is_pattern row.class
    && (int_le first_day_number row.first && (int_le row.first row.last && int_le row.last last_day_number))))))

-- the decision that a rule's row says
abbrev pub decision_by : RuleRow → Option Decision
decision_by row =
    if is_rule row then (do
      rule ← count_of row.place
      effect ← effect_of row.effect
      Some (record { rule = rule; effect = effect })) else None

-- an absent name is asked for as the empty text
abbrev pub or_empty : Option (List ℕ) → List ℕ
or_empty name = unwrap_or name []

-- the decision of the first rule that matches on that day for that role, if one matches
abbrev pub decision_for : Tables → List ℕ → Date → Action → Option (List ℕ) → Option (List ℕ) → Option (Option Decision)
decision_for t role day action collection class =
    if_any decision_by (matching_rule role (action_text action) (or_empty collection) (or_empty class) (epoch_day day) t.rules)

-- the refusal of the rules, if any, for that role on that day
abbrev pub denial_for : Tables → List ℕ → Date → Action → Option (List ℕ) → Option (List ℕ) → Option (Option Refusal)
denial_for t role day action collection class = do
  decision ← decision_for t role day action collection class
  Some (refusal_in (denial_verdict decision))

-- and for the role of the caller
abbrev pub denial_in : Tables → Visit → Action → Option (List ℕ) → Option (List ℕ) → Option (Option Refusal)
denial_in t visit action collection class = do
  role ← role_in t visit.caller
  denial_for t role visit.day action collection class

-- ---- a deposit

pub record Days : Type 0 where
  pub closed : Date
  pub deposited : Date
  -- when it was destroyed
  pub gone : Option Date

-- the days of its row: its records were closed by the day of the deposit
abbrev pub days_of : DepositRow → Option Days
days_of row =
    if int_le row.closed row.deposited then (do
      closed ← day_numbered row.closed
      deposited ← day_numbered row.deposited
      gone ← if_any day_numbered row.gone
      Some (record { closed = closed; deposited = deposited; gone = gone })) else None

-- ---- holds

-- a deposit, a collection or a class, and no two of them
abbrev pub scope_of : Option ℤ → Option (List ℕ) → Option (List ℕ) → Option Scope
scope_of (Some deposit) None None = Some scopes.Deposit
scope_of None (Some collection) None = Some scopes.Collection
scope_of None None (Some class) = Some scopes.Class
scope_of deposit collection class = None

-- what a row names
abbrev pub target_named : Option ℤ → Option (List ℕ) → Option (List ℕ) → Option Target
target_named (Some deposit) None None = option_map OnDeposit (count_of deposit)
target_named None (Some collection) None = Some (OnCollection collection)
target_named None None (Some class) = Some (OnClass class)
target_named deposit collection class = None

-- what is told of the hold with that row
abbrev pub hold_by : HoldRow → Option LiveHold
hold_by row = do
  number ← count_of row.number
  on ← scope_of row.deposit row.collection row.class
  placed ← day_numbered row.placed
  answer_if (is_matter row.matter) (record { number = number; matter = row.matter; on = on; placed = placed })

-- it reaches the deposit, released or not
abbrev pub is_over : ℕ → List ℕ → List ℕ → HoldRow → Bool
is_over n collection class h = holds_deposit (pos n) h || (holds_collection collection h || holds_class class h)

abbrev pub is_day_or_none : Option ℤ → Bool
is_day_or_none None = true
is_day_or_none (Some number) = is_between first_day_number last_day_number number

-- each hold over the deposit was released on a day of the office or not at all
abbrev pub are_released_on_days : ℕ → List ℕ → List ℕ → Tables → Bool
are_released_on_days n collection class t = list_all (λ h. not (is_over n collection class h) || is_day_or_none h.released) t.holds

-- the first of these, which has the row of a hold
abbrev pub first_hold : Tables → List ℤ → Option ℕ
first_hold t [] = None
first_hold t (k ∷ others) = do
  row ← hold_numbered k t.holds
  told ← hold_by row
  count_of k

-- the least live hold over a deposit, of which there has to be one
abbrev pub least_hold_in : Tables → ℕ → List ℕ → List ℕ → Option ℕ
least_hold_in t n collection class =
    if are_released_on_days n collection class t then first_hold t (live_holds (pos n) collection class t) else None

-- no hold by the count 0; else the least, where the count is one that an office keeps
abbrev pub counted_hold_in : Tables → ℤ → ℕ → List ℕ → List ℕ → Option (Option ℕ)
counted_hold_in t count n collection class =
    if int_eq count (pos 0) then Some None else (do
      limits ← limits_of t
      hold ← (if is_between (pos 1) limits.max_holds count then least_hold_in t n collection class else None)
      Some (Some hold))

-- what is told of the hold of that number
abbrev pub told_hold : Tables → ℤ → Option LiveHold
told_hold t k = do
  row ← hold_numbered k t.holds
  hold_by row

-- what is told of the live holds over a deposit
abbrev pub told_holds : Tables → ℕ → List ℕ → List ℕ → Option (List LiveHold)
told_holds t n collection class =
    if are_released_on_days n collection class t then all_told (told_hold t) (live_holds (pos n) collection class t) else None

-- what the hold with that row is on
abbrev pub target_of : HoldRow → Option Target
target_of row = target_named row.deposit row.collection row.class
