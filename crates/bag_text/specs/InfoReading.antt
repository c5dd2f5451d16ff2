-- What reading `bag-info.txt` gives, line by line: the pairs of a text, or its first fault.
use Rattle.std.specs.Prelude.{◌≡◌, ℕ, ◌+◌, Bool, not, List, [], ◌∷◌, ◌++◌, length, map, take, drop, Option, Some, None, Result, Ok, Err, Contains, ◌==◌, if◌then◌else◌}
use Rattle.std.specs.List.{list_all, list_any, position_or_len}
use Rattle.std.specs.Str.{is_utf8}
use Rattle.std.specs.Cow.{cow_str_bytes}
use Rattle.std.specs.declared.borrow.CowStr.{CowStr}
use Rattle.std.specs.Global.{Global}
use denote.Ref.{Bor}
use Rattle.bag_text.specs.Answers.{◌>>=◌}
use Rattle.bag_text.specs.Text.{is_blank, has_mark, skip_blanks, drop_last_blanks}
use Rattle.bag_text.specs.Lines.{lines}
use Rattle.bag_text.specs.BagInfo.{Pair, is_colon, begins_blank}
use Rattle.bag_text.specs.declared.bag_info.InfoFault.{InfoFault}
use Rattle.bag_text.specs.declared.bag_info.InfoFault.TheVariants.{NotUtf8, ByteOrderMark, NoColon, EmptyLabel, StrayContinuation, Memory}
use Rattle.bag_text.specs.declared.bag_info.BagInfo.{BagInfo}
use Rattle.bag_text.specs.ManifestReading.{is_owned}

abbrev pub label_of : List ℕ → List ℕ
label_of line = drop_last_blanks (take (position_or_len is_colon line) line)

abbrev pub value_of : List ℕ → List ℕ
value_of line = skip_blanks (drop (position_or_len is_colon line + 1) line)

-- what comes before a line's first colon, and after it
abbrev pub colon_cut : List ℕ → Option (List ℕ × List ℕ)
colon_cut line =
    if list_any is_colon line then Some (take (position_or_len is_colon line) line, drop (position_or_len is_colon line + 1) line) else None

abbrev pub pair_of : ℕ → List ℕ → Result Pair InfoFault
pair_of number line =
    if not (list_any is_colon line) then Err (NoColon number)
    else if length (label_of line) == 0 then Err (EmptyLabel number)
    else Ok (record { label = label_of line; value = value_of line })

-- the last pair, with one line more
abbrev pub extend_last : List Pair → List ℕ → List Pair
extend_last [] more = []
extend_last (p ∷ []) more = record { label = p.label; value = p.value ++ 10 ∷ more } ∷ []
extend_last (p ∷ q ∷ ps) more = p ∷ extend_last (q ∷ ps) more

-- the pairs before and what a line adds
unfoldable pub add_info_line : ℕ → List Pair → List ℕ → Result (List Pair) InfoFault
add_info_line number before line =
    if list_all is_blank line then Ok before
    else if begins_blank line then
    (if length before == 0 then Err (StrayContinuation number) else Ok (extend_last before (skip_blanks line)))
    else (pair_of number line >>= λ pair. Ok (before ++ pair ∷ []))

unfoldable pub pairs_from : ℕ → List Pair → List (List ℕ) → Result (List Pair) InfoFault
pairs_from number before [] = Ok before
pairs_from number before (line ∷ more) = add_info_line number before line >>= λ now. pairs_from (number + 1) now more

unfoldable pub info_of : List ℕ → Result (List Pair) InfoFault
info_of text =
    if not (is_utf8 text) then Err NotUtf8
    else if has_mark text then Err ByteOrderMark
    else pairs_from 1 [] (lines text)

-- ---- what a call answers, unless memory runs out

-- the fault that an error names, none where memory ran out
abbrev pub named_info_fault : InfoFault → Option InfoFault
named_info_fault Memory = None
named_info_fault fault = Some fault

-- a pair as the code has it: a slice of the text, and a value
abbrev pub CodePair : Type 0
CodePair = Bor (List ℕ) × CowStr Global

abbrev pub pair_in : CodePair → Pair
pair_in kept = record { label = kept.0.now; value = cow_str_bytes kept.1 }

abbrev pub pairs_of : List CodePair → List Pair
pairs_of all = map pair_in all

-- the pairs that were read, in their order
abbrev pub pairs_in : BagInfo → List Pair
pairs_in info = pairs_of info.pairs.items

-- whether a value is of several lines
abbrev pub has_line_feed : List ℕ → Bool
has_line_feed text = list_any (λ b. b == 10) text

-- a value is owned exactly where it has several lines
abbrev pub IsOwnedIfContinued : CodePair → Type 0
IsOwnedIfContinued kept = is_owned kept.1 ≡ has_line_feed (cow_str_bytes kept.1)

abbrev pub AreMarked : List CodePair → Type 0
AreMarked all = (kept : CodePair) → Contains all kept → IsOwnedIfContinued kept
