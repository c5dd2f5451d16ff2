-- What the numbers and texts of rows mean. None where they mean nothing: no accepted change writes such a row, and no
-- answer but a failure rests on it.
use Rattle.std.specs.Prelude.{ℕ, zero, suc, ℤ, pos, negsuc, neg_ℤ, int_le, ◌&&◌, ◌||◌, Bool, List, [], ◌∷◌, Option, Some, None, find, bytes_eq, codes, is_some, option_map, if◌then◌else◌}
use Rattle.std.specs.List.{cons_option, flat_map, filter_map, range_with_len}
use Rattle.std.specs.Ordering.{int_eq}
use Rattle.jiff.specs.Types.{Date}
use Rattle.jiff.specs.Words.{epoch_day}
use Rattle.office_core.specs.Actions.{action_of}
use Rattle.office_core.specs.Days.{first_day_number, last_day_number}
use Rattle.office_core.specs.DayReading.{date_of}
use Rattle.office_core.specs.FirstOf.{◌>>=◌}
use Rattle.office_core.specs.Names.{is_name}
use Rattle.office_core.specs.Retention.{last_due_number}
use Rattle.office_core.specs.Bounds.{max_years}
use Rattle.office_core.specs.declared.retention.Due.{Due}
use Rattle.office_core.specs.declared.retention.Due.TheVariants.{On, Never}
use Rattle.office_core.specs.declared.rule.Effect.{Effect}
use Rattle.office_core.specs.declared.rule.Effect.TheVariants.{Allow, Deny}
use Rattle.office_history.specs.Pictures.{years_back}

-- ---- numbers

abbrev pub is_between : ℤ → ℤ → ℤ → Bool
is_between least most number = int_le least number && int_le number most

-- a count, which is not below 0
abbrev pub count_of : ℤ → Option ℕ
count_of (pos count) = Some count
count_of (negsuc n) = None

-- a count that is at most this number
abbrev pub count_up_to : ℕ → ℤ → Option ℕ
count_up_to most number = if is_between (pos 0) (pos most) number then count_of number else None

-- the same value, or none where there is none
abbrev pub if_any : {A B : Type 0} → (A → Option B) → Option A → Option (Option B)
if_any tell None = Some None
if_any tell (Some x) = option_map Some (tell x)

-- ---- what is told of rows, one after another

-- what is told of each
abbrev pub all_told : {A B : Type 0} → (A → Option B) → List A → Option (List B)
all_told tell [] = Some []
all_told tell (x ∷ xs) = do
  one ← tell x
  others ← all_told tell xs
  Some (one ∷ others)

-- of each one thing is told, or that there is nothing to tell; the things, in order
abbrev pub things_told : {A B : Type 0} → (A → Option (Option B)) → List A → Option (List B)
things_told tell [] = Some []
things_told tell (x ∷ xs) = do
  one ← tell x
  others ← things_told tell xs
  Some (cons_option one others)

-- ---- days

-- the dates of this number of years from the first
unfoldable pub dates_from : ℕ → ℕ → List Date
dates_from first count = flat_map (λ year. flat_map (λ month. filter_map (date_of (pos year) month) (range_with_len 1 31)) (range_with_len 1 12)) (range_with_len first count)

-- the date with that number, of those from 1900 to 9999
abbrev pub date_numbered : ℤ → Option Date
date_numbered number = find (λ date. int_eq (epoch_day date) number) (dates_from 1_900 8_100)

-- the day of the office with that number
abbrev pub day_numbered : ℤ → Option Date
day_numbered number = if is_between first_day_number last_day_number number then date_numbered number else None

-- the day from which a deposit may be destroyed; never where there is no number
abbrev pub due_of_number : Option ℤ → Option Due
due_of_number None = Some Never
due_of_number (Some number) = if is_between first_day_number last_due_number number then option_map On (date_numbered number) else None

-- ---- years

-- the years of a class; none where it keeps its deposits permanently
abbrev pub years_of_number : ℤ → Option (Option ℕ)
years_of_number number = if is_between (neg_ℤ (pos 1)) (pos max_years) number then Some (years_back number) else None

-- ---- what a rule may ask

-- `*` or a name
abbrev pub is_pattern : List ℕ → Bool
is_pattern text = bytes_eq text (codes "*") || is_name text

-- `*` or an action
abbrev pub is_action_pattern : List ℕ → Bool
is_action_pattern text = bytes_eq text (codes "*") || is_some (action_of text)

-- 1 allows, 0 denies
abbrev pub effect_of : ℤ → Option Effect
effect_of (pos zero) = Some Deny
effect_of (pos (suc zero)) = Some Allow
effect_of number = None
