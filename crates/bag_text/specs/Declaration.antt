-- The declaration of a bag, its file `bagit.txt` (RFC 8493, section 2.1.1).
use Rattle.std.specs.Prelude.{◌≡◌, ℕ, ◌+◌, Bool, true, false, not, List, [], ◌∷◌, ◌++◌, length, map, take, drop, Option, Some, None, nat_lt, ◌==◌, ◌&&◌, ◌||◌, bytes_eq, codes, find, slice_get, option_and_then, if◌then◌else◌}
use Rattle.std.specs.Char.{is_ascii_digit, to_ascii_lowercase}
use Rattle.std.specs.List.{list_all, position_or_len}
use Rattle.std.specs.Option.{option_map_or}
use Rattle.std.specs.Str.{is_utf8}
use Rattle.bag_text.specs.Text.{AreBlanks, has_mark, trim_blanks}
use Rattle.bag_text.specs.Lines.{lines}
use Rattle.bag_text.specs.declared.declaration.Version.{Version}
use Rattle.bag_text.specs.declared.declaration.Version.TheVariants.{V1_0, V0_97}
use Rattle.bag_text.specs.declared.declaration.DeclFault.{DeclFault}
use Rattle.bag_text.specs.declared.declaration.DeclFault.TheVariants.{NotUtf8, ByteOrderMark, NotTwoLines, BadVersionLine, UnsupportedVersion, BadEncodingLine, UnsupportedEncoding}

abbrev pub version_text : Version → List ℕ
version_text V1_0 = codes "1.0"
version_text V0_97 = codes "0.97"

abbrev pub version_label : List ℕ
version_label = codes "BagIt-Version:"

abbrev pub encoding_label : List ℕ
encoding_label = codes "Tag-File-Character-Encoding:"

-- a label, blanks, a value, blanks
abbrev pub IsLabelled : List ℕ → List ℕ → List ℕ → Type 0
IsLabelled label value line =
    (before : List ℕ) × (after : List ℕ) × AreBlanks before × AreBlanks after
    × (line ≡ label ++ before ++ value ++ after)

-- A text declares a version: two lines, the version's and the encoding's, which is UTF-8 in any case.
pub record Declares (text : List ℕ) (v : Version) : Type 0 where
  pub utf8 : is_utf8 text ≡ true
  pub unmarked : has_mark text ≡ false
  pub first : List ℕ
  pub second : List ℕ
  pub encoding : List ℕ
  pub two : lines text ≡ first ∷ second ∷ []
  pub version : IsLabelled version_label (version_text v) first
  pub encoded : IsLabelled encoding_label encoding second
  pub is_utf8_in_any_case : map to_ascii_lowercase encoding ≡ codes "utf-8"

-- ---- the faults

-- the value after a label, without the blanks round it
abbrev pub after_label : List ℕ → List ℕ → Option (List ℕ)
after_label label line =
    if bytes_eq (take (length label) line) label then Some (trim_blanks (drop (length label) line)) else None

abbrev pub are_digits : List ℕ → Bool
are_digits s = not (length s == 0) && list_all is_ascii_digit s

-- digits, a full stop, digits
abbrev pub is_version_text : List ℕ → Bool
is_version_text value =
    let at = position_or_len (λ b. b == 46) value in
    nat_lt at (length value) && are_digits (take at value) && are_digits (drop (at + 1) value)

abbrev pub is_supported : List ℕ → Bool
is_supported value = bytes_eq value (version_text V1_0) || bytes_eq value (version_text V0_97)

abbrev pub is_utf8_name : List ℕ → Bool
is_utf8_name value = bytes_eq (map to_ascii_lowercase value) (codes "utf-8")

-- the values of the first line and of the second, where the label is right
abbrev pub version_value : List ℕ → Option (List ℕ)
version_value text = option_and_then (after_label version_label) (slice_get (lines text) 0)

abbrev pub encoding_value : List ℕ → Option (List ℕ)
encoding_value text = option_and_then (after_label encoding_label) (slice_get (lines text) 1)

-- whether a row of the faults applies
abbrev pub declaration_has : List ℕ → DeclFault → Bool
declaration_has text NotUtf8 = not (is_utf8 text)
declaration_has text ByteOrderMark = has_mark text
declaration_has text NotTwoLines = not (length (lines text) == 2)
declaration_has text BadVersionLine = option_map_or (λ value. not (is_version_text value)) (version_value text) true
declaration_has text UnsupportedVersion = option_map_or (λ value. not (is_supported value)) (version_value text) true
declaration_has text BadEncodingLine = option_map_or (λ value. length value == 0) (encoding_value text) true
declaration_has text UnsupportedEncoding = option_map_or (λ value. not (is_utf8_name value)) (encoding_value text) true

-- the first row that applies
abbrev pub declaration_fault : List ℕ → Option DeclFault
declaration_fault text = find (declaration_has text)
    (NotUtf8 ∷ ByteOrderMark ∷ NotTwoLines ∷ BadVersionLine ∷ UnsupportedVersion ∷ BadEncodingLine ∷ UnsupportedEncoding ∷ [])
