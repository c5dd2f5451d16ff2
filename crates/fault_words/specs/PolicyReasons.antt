-- What is printed to standard error about a policy's file that is refused: the fault's sentence, and where in the file it is.
use Rattle.std.specs.Prelude.{◌≡◌, ℕ, zero, suc, Bool, true, false, not, List, [], ◌∷◌, ◌++◌, ◌==◌, Option, Some, None, codes, count_by, decimal, find, is_none, is_some, option_and_then, option_map, slice_get, take, if◌then◌else◌}
use Rattle.std.specs.Option.{option_map_or}
use Rattle.std.specs.Str.{is_utf8}
use Rattle.std.specs.Str.Lossy.{utf8_valid_len}
use Rattle.toml.specs.Data.{Data, Members, as_table}
use Rattle.toml.specs.Parse.{parse_document}
use Rattle.bag_check.specs.FaultTexts.{printed_text}
use Rattle.office_core.specs.FirstOf.{first_some}
use Rattle.office_core.specs.Policies.{action_at, caller_entries, caller_in, days_at, effect_at, entries, first_at, has_days, is_one_of, keys_of_rule, last_at, pattern_at, rule_values, top_keys}
use Rattle.office_core.specs.declared.policy_fault.PolicyFault.{PolicyFault}
use Rattle.office_core.specs.declared.policy_fault.PolicyFault.TheVariants.{NotToml, UnknownKey, BadCaller, BadRule}
use Rattle.fault_words.specs.FaultWords.{policy_words}

-- ---- a position, as it is said after the fault's sentence

abbrev pub line_words : ℕ → List ℕ
line_words number = codes ": line " ++ decimal number

abbrev pub key_words : List ℕ → List ℕ
key_words key = codes ": the key " ++ printed_text key

abbrev pub caller_words : List ℕ → List ℕ
caller_words name = codes ": the caller " ++ printed_text name

-- ---- the line of a file that is no TOML

-- the tree that the bytes spell in TOML; nothing where they are no UTF-8 or no TOML
abbrev pub tree_in : List ℕ → Option Members
tree_in bytes = if is_utf8 bytes then parse_document bytes else None

abbrev pub is_toml : List ℕ → Bool
is_toml bytes = is_some (tree_in bytes)

-- the first lines, up to this number, each with its end
abbrev pub first_lines : ℕ → List ℕ → List ℕ
first_lines count [] = []
first_lines zero (byte ∷ more) = []
first_lines (suc count) (byte ∷ more) = byte ∷ first_lines (if byte == 10 then count else suc count) more

-- The lines before this one, counted from 1, are TOML, and with it they are none. That is as much as can be known of where a
-- text goes wrong: a line may begin what only later ones end, such as an array.
pub record BreaksToml (bytes : List ℕ) (line : ℕ) : Type 0 where
  pub before : ℕ
  pub follows : line ≡ suc before
  pub is_good : is_toml (first_lines before bytes) ≡ true
  pub is_broken : is_toml (first_lines line bytes) ≡ false

-- the line that has the byte at this offset, from 1
abbrev pub line_at : ℕ → List ℕ → ℕ
line_at offset bytes = suc (count_by (λ byte. byte == 10) (take offset bytes))

-- the line of the first byte that is no UTF-8, or a line that breaks the TOML; nothing of a file that is TOML
pub data IsLineLocation (bytes location : List ℕ) : Type 0 where
  no_text : is_utf8 bytes ≡ false → location ≡ line_words (line_at (utf8_valid_len bytes) bytes) → IsLineLocation bytes location
  no_toml : (line : ℕ) → is_utf8 bytes ≡ true → is_toml bytes ≡ false → BreaksToml bytes line → location ≡ line_words line → IsLineLocation bytes location
  toml : is_toml bytes ≡ true → location ≡ [] → IsLineLocation bytes location

-- ---- the key or the caller of a tree

-- the first key at the top that is none of the three
abbrev pub unknown_key : Members → Option (List ℕ)
unknown_key tree = option_map (λ entry. entry.0) (find (λ entry. not (is_one_of top_keys entry.0)) (entries tree))

-- the first caller that is no name, or whose role is none
abbrev pub bad_caller : List (List ℕ × Data) → Option (List ℕ)
bad_caller found = option_map (λ entry. entry.0) (find (λ entry. is_none (caller_in entry)) found)

-- that caller, or the key `callers` where it is no table
abbrev pub caller_location : Option (List (List ℕ × Data)) → List ℕ
caller_location None = key_words (codes "callers")
caller_location (Some found) = option_map_or caller_words (bad_caller found) []

-- the first key of a rule that a rule may not have, where rules have days or don't
abbrev pub unknown_rule_key : Bool → Members → Option (List ℕ)
unknown_rule_key with_days rule = option_map (λ entry. entry.0) (find (λ entry. not (is_one_of (keys_of_rule with_days) entry.0)) (entries rule))

-- this key, where its value is missing or one that it may not have
abbrev pub key_if : Bool → List ℕ → Option (List ℕ)
key_if is_good key = if is_good then None else Some key

-- `first` or `last` where it is there and no day, and `first` where it is after the last day
abbrev pub bad_day_key : Members → Option (List ℕ)
bad_day_key rule = first_some (
    key_if (is_some (first_at rule)) (codes "first")
    ∷ key_if (is_some (last_at rule)) (codes "last")
    ∷ key_if (is_some (days_at rule)) (codes "first")
    ∷ [])

-- the first of the five keys of a rule that is missing or has a value that it may not have, or the key of such a day
abbrev pub bad_rule_key : Members → Option (List ℕ)
bad_rule_key rule = first_some (
    key_if (is_some (effect_at rule)) (codes "effect")
    ∷ key_if (is_some (pattern_at (codes "role") rule)) (codes "role")
    ∷ key_if (is_some (action_at rule)) (codes "action")
    ∷ key_if (is_some (pattern_at (codes "collection") rule)) (codes "collection")
    ∷ key_if (is_some (pattern_at (codes "class") rule)) (codes "class")
    ∷ bad_day_key rule
    ∷ [])

-- the key of a rule that is at fault; nothing where the rule is no table
abbrev pub rule_key : Bool → Members → Option (List ℕ)
rule_key with_days rule = first_some (unknown_rule_key with_days rule ∷ bad_rule_key rule ∷ [])

abbrev pub value_key : Bool → Data → Option (List ℕ)
value_key with_days value = option_and_then (rule_key with_days) (as_table value)

-- the value of the rule with this number, from 1
abbrev pub value_at : ℕ → List Data → Option Data
value_at zero values = None
value_at (suc place) values = slice_get values place

abbrev pub numbered_key : Bool → ℕ → Option (List Data) → Option (List ℕ)
numbered_key with_days number None = None
numbered_key with_days number (Some values) = option_and_then (value_key with_days) (value_at number values)

abbrev pub location_in : PolicyFault → Members → List ℕ
location_in UnknownKey tree = option_map_or key_words (unknown_key tree) []
location_in BadCaller tree = caller_location (caller_entries tree)
location_in (BadRule number) tree = option_map_or key_words (numbered_key (has_days tree) number (rule_values tree)) []
location_in fault tree = []

-- ---- what is printed

-- where the fault is, as far as it is known
abbrev pub IsFaultLocation : List ℕ → PolicyFault → List ℕ → Type 0
IsFaultLocation bytes NotToml location = IsLineLocation bytes location
IsFaultLocation bytes fault location = location ≡ option_map_or (location_in fault) (tree_in bytes) []

-- the fault's sentence and its location, a line with its end
abbrev pub IsPolicyReason : List ℕ → PolicyFault → List ℕ → Type 0
IsPolicyReason bytes fault text = (location : List ℕ) × IsFaultLocation bytes fault location × (text ≡ policy_words fault ++ location ++ 10 ∷ [])
