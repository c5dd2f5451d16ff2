-- Words on lists that the definitions of the office use.
use Rattle.std.specs.Prelude.{ℕ, zero, suc, List, [], ◌∷◌, Option, None, slice_get, bytes_eq, if◌then◌else◌}
use Rattle.std.specs.List.{list_any, range_with_len}
use Rattle.std.specs.Option.{option_or}

-- what the first item that says something says
abbrev pub first_said : {A B : Type 0} → (A → Option B) → List A → Option B
first_said says [] = None
first_said says (x ∷ xs) = option_or (says x) (first_said says xs)

-- what the last item that says something says
abbrev pub last_said : {A B : Type 0} → (A → Option B) → List A → Option B
last_said says [] = None
last_said says (x ∷ xs) = option_or (last_said says xs) (says x)

-- the item of that number, from 1
abbrev pub item_numbered : {A : Type 0} → List A → ℕ → Option A
item_numbered xs zero = None
item_numbered xs (suc at) = slice_get xs at

-- 1, 2, 3 and so on, up to that number
abbrev pub numbers : ℕ → List ℕ
numbers count = range_with_len 1 count

-- each text that isn't among those seen, once, where it occurs first
abbrev pub distinct_after : List (List ℕ) → List (List ℕ) → List (List ℕ)
distinct_after seen [] = []
distinct_after seen (text ∷ texts) = if list_any (bytes_eq text) seen then distinct_after seen texts else text ∷ distinct_after (text ∷ seen) texts

-- each text once, where it occurs first
abbrev pub in_first_places : List (List ℕ) → List (List ℕ)
in_first_places texts = distinct_after [] texts
