-- What `bag-info.txt` says (RFC 8493, section 2.2.2), and why a text says nothing.
use Rattle.std.specs.Prelude.{◌≡◌, ℕ, ◌+◌, Bool, true, false, not, List, [], ◌∷◌, ◌++◌, length, filter, ◌==◌, ◌≢◌}
use Rattle.std.specs.List.{list_all, list_any, flat_map}
use Rattle.std.specs.Str.{is_utf8}
use Rattle.bag_text.specs.Text.{is_blank, AreBlanks, has_mark, begins_with, skip_blanks, drop_last_blanks}
use Rattle.bag_text.specs.Lines.{lines}
use Rattle.bag_text.specs.declared.bag_info.InfoFault.{InfoFault}
use Rattle.bag_text.specs.declared.bag_info.InfoFault.TheVariants.{NotUtf8, ByteOrderMark, NoColon, EmptyLabel, StrayContinuation, Memory}

-- a label and its value
pub record Pair : Type 0 where
  pub label : List ℕ
  pub value : List ℕ

abbrev pub is_colon : ℕ → Bool
is_colon b = b == 58

-- a line that continues a value
abbrev pub begins_blank : List ℕ → Bool
begins_blank [] = false
begins_blank (b ∷ t) = is_blank b

-- A label, blanks, a colon, blanks, a value. The label isn't empty, has no colon, and neither begins nor
-- ends with a blank; the value begins with none.
pub record IsPairLine (line label value : List ℕ) : Type 0 where
  pub before : List ℕ
  pub after : List ℕ
  pub is : line ≡ label ++ before ++ 58 ∷ after ++ value
  pub blanks_before : AreBlanks before
  pub blanks_after : AreBlanks after
  pub some_label : label ≢ []
  pub no_colon : list_any is_colon label ≡ false
  pub front : begins_blank label ≡ false
  pub end : drop_last_blanks label ≡ label
  pub whole_run : begins_blank value ≡ false

-- Lines fall into groups, one for each pair: its first line, and those that continue it, each of which
-- begins with a blank. The value and those lines without their first blanks are joined by LF.
abbrev pub AreGroups : List (List ℕ) → List Pair → Type 0
AreGroups ls [] = ls ≡ []
AreGroups ls (p ∷ ps) =
    (first : List ℕ) × (more : List (List ℕ)) × (rest : List (List ℕ)) × (value : List ℕ)
    × (ls ≡ first ∷ more ++ rest)
    × IsPairLine first p.label value
    × (list_all begins_blank more ≡ true)
    × (p.value ≡ value ++ flat_map (λ line. 10 ∷ skip_blanks line) more)
    × AreGroups rest ps

-- the lines that aren't of blanks alone
abbrev pub filled_lines : List (List ℕ) → List (List ℕ)
filled_lines ls = filter (λ line. not (list_all is_blank line)) ls

-- A text says these pairs, in their order.
pub record SaysInfo (text : List ℕ) (pairs : List Pair) : Type 0 where
  pub utf8 : is_utf8 text ≡ true
  pub unmarked : has_mark text ≡ false
  pub groups : AreGroups (filled_lines (lines text)) pairs

-- ---- the faults

-- A line that is reached: the lines before it say these pairs, and it isn't of blanks alone.
pub record IsReached (text : List ℕ) (pairs : List Pair) (number : ℕ) (line : List ℕ) : Type 0 where
  pub utf8 : is_utf8 text ≡ true
  pub unmarked : has_mark text ≡ false
  pub before : List (List ℕ)
  pub after : List (List ℕ)
  pub is : lines text ≡ before ++ line ∷ after
  pub place : number ≡ length before + 1
  pub said : AreGroups (filled_lines before) pairs
  pub full : list_all is_blank line ≡ false

-- The first fault of a text that says nothing.
abbrev pub InfoFaultIs : List ℕ → InfoFault → Type 0
InfoFaultIs text NotUtf8 = is_utf8 text ≡ false
InfoFaultIs text ByteOrderMark = (is_utf8 text ≡ true) × (has_mark text ≡ true)
InfoFaultIs text (NoColon number) =
    (pairs : List Pair) × (line : List ℕ) × IsReached text pairs number line
    × (begins_blank line ≡ false) × (list_any is_colon line ≡ false)
InfoFaultIs text (EmptyLabel number) =
    (pairs : List Pair) × (line : List ℕ) × IsReached text pairs number line × (begins_with 58 line ≡ true)
InfoFaultIs text (StrayContinuation number) =
    (line : List ℕ) × IsReached text [] number line × (begins_blank line ≡ true)
InfoFaultIs text Memory = ⊥
