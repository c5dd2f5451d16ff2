-- The numbers of limits, as sentences print them.
use Rattle.std.specs.Prelude.{ℕ, ◌/◌, ◌%◌, List, ◌++◌, codes, decimal, if◌then◌else◌, nat_lt}

-- the last three digits
abbrev pub last_digits : ℕ → List ℕ
last_digits number = decimal (number / 100 % 10) ++ decimal (number / 10 % 10) ++ decimal (number % 10)

-- with a comma before the last three digits, of a number below 1,000,000
abbrev pub thousands : ℕ → List ℕ
thousands number = if nat_lt number 1_000 then decimal number else decimal (number / 1_000) ++ codes "," ++ last_digits number

-- with a comma before each three digits, of a number below 1,000,000,000,000
unfoldable pub grouped : ℕ → List ℕ
grouped number =
    if nat_lt number 1_000_000 then thousands number
    else thousands (number / 1_000_000) ++ codes "," ++ last_digits (number / 1_000) ++ codes "," ++ last_digits number
