-- What reading the value of a `Payload-Oxum` gives, by computing.
use Rattle.std.specs.Prelude.{ℕ, not, List, [], ◌∷◌, length, take, drop, Option, Some, None, ◌==◌, ◌&&◌, nat_le, if◌then◌else◌}
use Rattle.std.specs.List.{list_all, position_or_len}
use Rattle.std.specs.Char.{is_ascii_digit}
use Rattle.bag_text.specs.Text.{is_blank}
use Rattle.bag_check.specs.Validity.{number_from}

-- the digits that a text begins with, and what follows them
abbrev pub digit_len : List ℕ → ℕ
digit_len t = position_or_len (λ b. not (is_ascii_digit b)) t

abbrev pub digits_in : List ℕ → List ℕ
digits_in t = take (digit_len t) t

abbrev pub after_digits : List ℕ → List ℕ
after_digits t = drop (digit_len t) t

-- the number that 1 to 20 digits spell
abbrev pub number_spelled : List ℕ → Option ℕ
number_spelled digits = if nat_le 1 (length digits) && nat_le (length digits) 20 then Some (number_from 0 digits) else None

-- what follows a full stop
abbrev pub after_stop : List ℕ → Option (List ℕ)
after_stop [] = None
after_stop (b ∷ t) = if b == 46 then Some t else None

-- a number with nothing but blanks after it
abbrev pub number_at_end : List ℕ → Option ℕ
number_at_end t = if list_all is_blank (after_digits t) then number_spelled (digits_in t) else None

abbrev pub oxum_with_files : ℕ → Option ℕ → Option (ℕ × ℕ)
oxum_with_files bytes None = None
oxum_with_files bytes (Some files) = Some (bytes, files)

abbrev pub with_rest : ℕ → Option (List ℕ) → Option (ℕ × ℕ)
with_rest bytes None = None
with_rest bytes (Some rest) = oxum_with_files bytes (number_at_end rest)

abbrev pub with_bytes : Option ℕ → Option (List ℕ) → Option (ℕ × ℕ)
with_bytes None rest = None
with_bytes (Some bytes) rest = with_rest bytes rest

-- the bytes and the files that a value names
abbrev pub counts_of : List ℕ → Option (ℕ × ℕ)
counts_of value = with_bytes (number_spelled (digits_in value)) (after_stop (after_digits value))
