-- Forms of many files.
use Rattle.std.specs.Prelude.{ℕ, ◌-◌, List, ◌++◌, codes, decimal, length, replicate}
use Rattle.std.specs.List.{flat_map, range_with_len}

-- the number with zeros before it, up to four digits
abbrev pub four_digits : ℕ → List ℕ
four_digits n = replicate (4 - length (decimal n)) 48 ++ decimal n

-- an empty file of this name
abbrev pub empty_file : ℕ → List ℕ
empty_file n = codes "FILE 4 0\n" ++ four_digits n ++ codes "\n"

-- a form of so many empty files, which lacks its `END`
unfoldable pub form_without_end : ℕ → List ℕ
form_without_end count = codes "BAGSET 1\n" ++ flat_map empty_file (range_with_len 0 count)
