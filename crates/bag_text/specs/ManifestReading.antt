-- What reading a manifest gives, line by line.
use Rattle.std.specs.Prelude.{◌≡◌, ℕ, ◌+◌, Bool, true, false, not, List, [], ◌∷◌, length, map, Option, Some, None, Result, Ok, Err, ok_or, is_some, option_map, Contains, ◌==◌, if◌then◌else◌}
use Rattle.std.specs.Str.{is_utf8}
use Rattle.std.specs.List.{list_all}
use Rattle.std.specs.Result.{result_ok}
use Rattle.std.specs.Ordering.{nat_cmp}
use Rattle.std.specs.Cmp.Lexicographic.{slice_cmp}
use Rattle.std.specs.BTreeMap.{insert_entry, is_at, get_by}
use Rattle.std.specs.Map.{lookup}
use Rattle.std.specs.Cow.{cow_str_bytes}
use Rattle.std.specs.declared.borrow.CowStr.{CowStr}
use Rattle.std.specs.declared.borrow.CowStr.TheVariants as text
use Rattle.std.specs.Global.{Global}
use Rattle.hex.specs.Hex.{decode_sized}
use Rattle.bag_text.specs.declared.declaration.Version.{Version}
use Rattle.bag_text.specs.declared.checksum.Algorithm.{Algorithm}
use Rattle.bag_text.specs.declared.checksum.Checksum.{Checksum}
use Rattle.bag_text.specs.declared.listing.Listing.{Listing}
use Rattle.bag_text.specs.declared.listing.Manifest.{Manifest}
use Rattle.bag_text.specs.declared.listing.LineFault.{LineFault}
use Rattle.bag_text.specs.declared.listing.LineFault.TheVariants.{NotUtf8, ByteOrderMark, BadChecksum, NoPath, BadPath, ListedTwice, Memory}
use Rattle.bag_text.specs.Answers.{◌>>=◌}
use Rattle.bag_text.specs.Text.{is_blank, has_mark, begins_with}
use Rattle.bag_text.specs.Lines.{lines}
use Rattle.bag_text.specs.Paths.{is_good}
use Rattle.bag_text.specs.Manifest.{coded_character, has_coded, decode, size_of, checksum_of, sum_text, path_text}

-- the first character, and the spelling of the others
abbrev pub next_char : Version → List ℕ → Option (ℕ × List ℕ)
next_char v [] = None
next_char v (a ∷ b ∷ c ∷ s) = elim (coded_character v a b c) [ Some x ↦ Some (x, s) | None ↦ Some (a, b ∷ c ∷ s) ]
next_char v (a ∷ s) = Some (a, s)

-- ---- lines

-- the path that is spelled so, where it is good, and whether something was decoded for it
abbrev pub good_of : Bool → List ℕ → Option (List ℕ × Bool)
good_of is_decoded bytes = if is_good bytes then Some (bytes, is_decoded) else None

abbrev pub path_spelled : Version → List ℕ → Option (List ℕ × Bool)
path_spelled v spelled = if begins_with 42 spelled then None else good_of (has_coded v spelled) (decode v spelled)

-- the checksum that hex digits spell
abbrev pub checksum_in : Algorithm → List ℕ → Option Checksum
checksum_in a digits = option_map (checksum_of a) (result_ok (decode_sized digits (size_of a)))

-- what a line lists of its path: the checksum, the line's number, and whether something was decoded for the path
pub record Entry : Type 0 where
  pub checksum : Checksum
  pub line : ℕ
  pub is_decoded : Bool

-- a line's path and checksum
unfoldable pub entry_of : Version → Algorithm → ℕ → List ℕ → Result (List ℕ × Entry) LineFault
entry_of v a number line = do
  checksum ← ok_or (checksum_in a (sum_text line)) (BadChecksum number)
  spelled ← if length (path_text line) == 0 then Err (NoPath number) else Ok (path_text line)
  path ← ok_or (path_spelled v spelled) (BadPath number)
  Ok (path.0, record { checksum = checksum; line = number; is_decoded = path.1 })

abbrev pub Entries : Type 0
Entries = List (List ℕ × Entry)

abbrev pub is_path_listed : List ℕ → Entries → Bool
is_path_listed path entries = is_some (lookup (is_at (slice_cmp nat_cmp path)) entries)

-- the entries before and the one of a line, put in its place by path
unfoldable pub add_line_of : Version → Algorithm → ℕ → Entries → List ℕ → Result Entries LineFault
add_line_of v a number before line =
    if list_all is_blank line then Ok before
    else (entry_of v a number line >>= λ entry.
    if is_path_listed entry.0 before then Err (ListedTwice number) else Ok (insert_entry (slice_cmp nat_cmp) before entry.0 entry.1))

-- line after line, the first of which has this number
unfoldable pub entries_of : Version → Algorithm → ℕ → Entries → List (List ℕ) → Result Entries LineFault
entries_of v a number before [] = Ok before
entries_of v a number before (line ∷ more) = add_line_of v a number before line >>= λ now. entries_of v a (number + 1) now more

unfoldable pub manifest_of : Version → Algorithm → List ℕ → Result Entries LineFault
manifest_of v a text =
    if not (is_utf8 text) then Err NotUtf8
    else if has_mark text then Err ByteOrderMark
    else entries_of v a 1 [] (lines text)

-- ---- what a call answers, unless memory runs out

-- the fault that an error names, none where memory ran out
abbrev pub named_line_fault : LineFault → Option LineFault
named_line_fault Memory = None
named_line_fault fault = Some fault

-- whether a path is owned
abbrev pub is_owned : CowStr Global → Bool
is_owned (text.Borrowed path) = false
is_owned (text.Owned path) = true

-- a path as a key: its bytes, and whether it is owned
abbrev pub key_of : CowStr Global → List ℕ × Bool
key_of path = (cow_str_bytes path, is_owned path)

-- an entry of a manifest: what is owned was decoded
abbrev pub entry_in : CowStr Global × Listing → List ℕ × Entry
entry_in e = (cow_str_bytes e.0, record { checksum = e.1.checksum; line = e.1.line; is_decoded = is_owned e.0 })

abbrev pub entries_in : Manifest → Entries
entries_in m = map entry_in m.entries.entries

-- a manifest's paths, in order
abbrev pub paths_of : Manifest → List (List ℕ)
paths_of m = map (λ e. cow_str_bytes e.0) m.entries.entries

-- the manifest has an entry of the path, with this checksum and this line
abbrev pub HasEntry : Manifest → List ℕ → Checksum → ℕ → Type 0
HasEntry m path checksum line =
    (key : CowStr Global) × Contains m.entries.entries (key, record { checksum = checksum; line = line }) × (cow_str_bytes key ≡ path)

-- the manifest has an entry of the path
abbrev pub HasPath : Manifest → List ℕ → Type 0
HasPath m path = (checksum : Checksum) × (line : ℕ) × HasEntry m path checksum line

-- what a manifest says of a path
abbrev pub listing_at : List ℕ → Manifest → Option Listing
listing_at path m = get_by (λ key. slice_cmp nat_cmp path (cow_str_bytes key)) m.entries
