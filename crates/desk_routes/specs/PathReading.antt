-- How a path is read, by its beginning and its parts. The law `spelled_resources` says that this reads each path as `Resources` spells it; the rule is
-- Depot's own, as there.
use Rattle.std.specs.Prelude.{ℕ, ◌==◌, Bool, false, ◌&&◌, nat_le, List, [], ◌∷◌, length, drop, codes, Option, Some, None, nat_eq, option_map, option_and_then, if◌then◌else◌}
use Rattle.std.specs.Option.{option_or}
use Rattle.std.specs.List.{starts_with, list_all}
use Rattle.std.specs.Char.{is_ascii_digit}
use Rattle.std.specs.Str.Parse.{digits_value}
use Rattle.office_core.specs.Names.{is_name}
use Rattle.desk_routes.specs.declared.resource.Resource.{Resource}
use Rattle.desk_routes.specs.declared.resource.Resource.TheVariants as resources

-- which pattern a path has, with the texts for its name, its number and its path
pub data Parts : Type 0 where
  class collection deposit holds_of_deposit bag audit hold : List ℕ → Parts
  file : List ℕ → List ℕ → Parts
  deposits holds due : Parts

-- what a path says that begins so, by what follows
abbrev pub after_prefix : List ℕ → (List ℕ → Option Parts) → List ℕ → Option Parts
after_prefix front rest_of path = if starts_with nat_eq path front then rest_of (drop (length front) path) else None

abbrev pub nothing_more : Parts → List ℕ → Option Parts
nothing_more parts [] = Some parts
nothing_more parts (b ∷ rest) = None

abbrev pub with_byte : ℕ → List ℕ × Option (List ℕ) → List ℕ × Option (List ℕ)
with_byte b pair = (b ∷ pair.0, pair.1)

-- the text before the first slash, and what follows that slash
abbrev pub cut : List ℕ → List ℕ × Option (List ℕ)
cut [] = ([], None)
cut (b ∷ text) = if b == 47 then ([], Some text) else with_byte b (cut text)

-- a part that is not empty: the last of the path, or one that more follows
abbrev pub by_part : (List ℕ → Option Parts) → (List ℕ → List ℕ → Option Parts) → List ℕ × Option (List ℕ) → Option Parts
by_part last more ([], rest) = None
by_part last more (b ∷ part, None) = last (b ∷ part)
by_part last more (b ∷ part, Some rest) = more (b ∷ part) rest

abbrev pub no_more : List ℕ → List ℕ → Option Parts
no_more part rest = None

abbrev pub last_part : (List ℕ → Parts) → List ℕ → Option Parts
last_part parts text = by_part (λ part. Some (parts part)) no_more (cut text)

-- all that is left, if it is not empty
abbrev pub all_of : (List ℕ → Parts) → List ℕ → Option Parts
all_of parts [] = None
all_of parts (b ∷ rest) = Some (parts (b ∷ rest))

-- what follows `/deposits/N/`
abbrev pub under_deposit : List ℕ → List ℕ → Option Parts
under_deposit number rest =
    option_or (after_prefix (codes "audit") (nothing_more (audit number)) rest)
    (option_or (after_prefix (codes "bag") (nothing_more (bag number)) rest)
    (option_or (after_prefix (codes "files/") (all_of (file number)) rest)
    (after_prefix (codes "holds") (nothing_more (holds_of_deposit number)) rest)))

-- what follows `/deposits/`
abbrev pub under_deposits : List ℕ → Option Parts
under_deposits text = by_part (λ number. Some (deposit number)) under_deposit (cut text)

abbrev pub parts_of : List ℕ → Option Parts
parts_of path =
    option_or (after_prefix (codes "/classes/") (last_part class) path)
    (option_or (after_prefix (codes "/collections/") (last_part collection) path)
    (option_or (after_prefix (codes "/deposits/") under_deposits path)
    (option_or (after_prefix (codes "/deposits") (nothing_more deposits) path)
    (option_or (after_prefix (codes "/due") (nothing_more due) path)
    (option_or (after_prefix (codes "/holds/") (last_part hold) path)
    (after_prefix (codes "/holds") (nothing_more holds) path))))))

-- 1 to 7 digits, of which the first is no zero, unless it is the only one
abbrev pub is_number : List ℕ → Bool
is_number [] = false
is_number (b ∷ []) = is_ascii_digit b
is_number (b ∷ c ∷ rest) = if b == 48 then false else nat_le (length (b ∷ c ∷ rest)) 7 && list_all is_ascii_digit (b ∷ c ∷ rest)

abbrev pub number_of : List ℕ → Option ℕ
number_of text = if is_number text then Some (digits_value 10 text) else None

abbrev pub name_of : List ℕ → Option (List ℕ)
name_of text = if is_name text then Some text else None

-- a text that is not empty
abbrev pub file_path_of : List ℕ → Option (List ℕ)
file_path_of text = if nat_le 1 (length text) then Some text else None

-- the resource of a path with these parts, where they are a name, numbers and the path of a file
abbrev pub resource_by_parts : Parts → Option Resource
resource_by_parts (class name) = option_map resources.Class (name_of name)
resource_by_parts (collection name) = option_map resources.Collection (name_of name)
resource_by_parts deposits = Some resources.Deposits
resource_by_parts (deposit number) = option_map resources.Deposit (number_of number)
resource_by_parts (holds_of_deposit number) = option_map resources.HoldsOfDeposit (number_of number)
resource_by_parts (bag number) = option_map resources.Bag (number_of number)
resource_by_parts (file number path) = option_and_then (λ n. option_map (resources.File n) (file_path_of path)) (number_of number)
resource_by_parts (audit number) = option_map resources.Audit (number_of number)
resource_by_parts holds = Some resources.Holds
resource_by_parts (hold number) = option_map resources.Hold (number_of number)
resource_by_parts due = Some resources.Due

-- what a path names, if anything
abbrev pub resource_named : List ℕ → Option Resource
resource_named path = option_and_then resource_by_parts (parts_of path)
