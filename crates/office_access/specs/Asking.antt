-- Who asks, by the row of the caller, what a rule's row may ask, and when the holds over a deposit belie their count.
use Rattle.std.specs.Prelude.{◌≡◌, ◌≢◌, ◌⊎◌, ℕ, ℤ, pos, int_le, ◌&&◌, Bool, true, false, List, [], Some, option_map, string_bytes}
use Rattle.jiff.specs.Types.{Date}
use Rattle.office_core.specs.Days.{first_day_number, last_day_number}
use Rattle.office_core.specs.Policies.{or_stranger}
use Rattle.office_rows.specs.Rows.{RuleRow, Tables, limits_of, live_holds}
use Rattle.office_by_rows.specs.Values.{is_action_pattern, is_between, is_pattern}
use Rattle.office_by_rows.specs.Asking.{are_released_on_days, role_in}
pub use Rattle.office_by_rows.specs.Asking.{Visit, or_empty}
use Rattle.office_access.specs.declared.asker.Asker.{Asker}

abbrev pub visit_on : Date → List ℕ → Visit
visit_on day caller = record { day = day; caller = caller }

-- the role by which the rules are asked
abbrev pub role_name : Asker → List ℕ
role_name asker = or_stranger (option_map string_bytes asker.role)

-- it asks as the rows say of the caller, on the day of the visit
pub record IsAskerBy (t : Tables) (visit : Visit) (asker : Asker) : Type 0 where
  pub role : role_in t visit.caller ≡ Some (role_name asker)
  pub on : asker.day ≡ visit.day

-- the row asks what a rule may
abbrev pub asks_as_rules_do : RuleRow → Bool
asks_as_rules_do row = is_pattern row.role && (is_action_pattern row.action && (is_pattern row.collection && is_pattern row.class))

-- the days of a rule: both are the office's, and the first is not after the last
abbrev pub are_bounds : ℤ → ℤ → Bool
are_bounds first last = int_le first_day_number first && (int_le first last && int_le last last_day_number)

-- ---- the holds over a deposit

-- the count is one that an office keeps of a deposit that is held: at least 1, and no more than it takes
abbrev pub IsKeptCount : ℤ → Tables → Type 0
IsKeptCount count t = option_map (λ limits. is_between (pos 1) limits.max_holds count) (limits_of t) ≡ Some true

-- no live hold is to be found over it: there is none, or a hold over it was released on no day of the office
abbrev pub FindsNoHold : ℕ → List ℕ → List ℕ → Tables → Type 0
FindsNoHold n collection class t = (are_released_on_days n collection class t ≡ false) ⊎ (live_holds (pos n) collection class t ≡ [])

-- it is held by its count, but the count is none that an office keeps, or no live hold is to be found
abbrev pub IsMiscounted : ℤ → ℕ → List ℕ → List ℕ → Tables → Type 0
IsMiscounted count n collection class t = (count ≢ pos 0) × ((IsKeptCount count t → ⊥) ⊎ FindsNoHold n collection class t)
