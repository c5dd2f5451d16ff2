-- What reading the line of a record gives, step by step. The format is Depot's own.
use Rattle.std.specs.Prelude.{◌≡◌, ◌≢◌, ℕ, ◌<◌, ◌≤◌, ◌==◌, ◌&&◌, Bool, false, nat_lt, nat_le, List, [], ◌∷◌, ◌++◌, length, take, codes, bytes_eq, slice_index, Option, Some, None, if◌then◌else◌}
use Rattle.std.specs.List.{list_all}
use Rattle.std.specs.Char.{is_ascii_digit}
use Rattle.std.specs.Str.Parse.{digits_value}
use Rattle.jiff.specs.Types.{Date}
use Rattle.http_desk.specs.Records.{IsLine, line_text, max_request}
use Rattle.http_desk.specs.declared.record.Found.{Found}
use Rattle.http_desk.specs.declared.record.Found.TheVariants as found

-- one digit, or two to eight without a leading zero
abbrev pub has_length_form : List ℕ → Bool
has_length_form [] = false
has_length_form (b ∷ []) = is_ascii_digit b
has_length_form (b ∷ c ∷ rest) = if b == 48 then false else nat_le (length (b ∷ c ∷ rest)) 8 && list_all is_ascii_digit (b ∷ c ∷ rest)

-- the number that a length's text writes
abbrev pub length_of : List ℕ → Option ℕ
length_of text = if has_length_form text then (if nat_le (digits_value 10 text) max_request then Some (digits_value 10 text) else None) else None

-- the line begins with `REQ `, has a blank after ten bytes more, and goes on
abbrev pub has_marks : List ℕ → Bool
has_marks line = nat_lt 15 (length line) && bytes_eq (take 4 line) (codes "REQ ") && slice_index line 14 == 32

-- what is said of a line without its LF, and the bytes after it
abbrev pub LineSays : Found → List ℕ → List ℕ → Type 0
LineSays (found.Whole day bytes rest) line body = IsLine day (length bytes.now) × (line ≡ line_text day (length bytes.now)) × (body ≡ bytes.now ++ 10 ∷ rest.now)
LineSays found.More line body = (day : Date) × (count : ℕ) × IsLine day count × (line ≡ line_text day count) × (length body ≤ count)
LineSays found.Bad line body = (day : Date) (count : ℕ) → IsLine day count → line ≡ line_text day count → (count < length body) × (slice_index body count ≢ 10)
