-- Where the head of a request ends. RFC 9112, section 2.1, ends a head with an empty line, and section 2.2 lets a line end with a
-- bare LF. That the first such end counts, and the most bytes, are Depot's own rules.
use Rattle.std.specs.Prelude.{◌≡◌, ℕ, suc, ◌<◌, ◌≤◌, ◌==◌, ◌⊎◌, nat_lt, List, [], ◌∷◌, ◌++◌, take, length, Option, Some, None, option_map, if◌then◌else◌}
use Rattle.desk_heads.specs.Bounds.{max_head}
use Rattle.desk_heads.specs.declared.head_end.HeadEnd.{HeadEnd}
use Rattle.desk_heads.specs.declared.head_end.HeadEnd.TheVariants.{Short, TooLarge, Found}

-- the bytes end with LF LF or LF CR LF
abbrev pub EndsWithEmptyLine : List ℕ → Type 0
EndsWithEmptyLine bytes = (front : List ℕ) × ((bytes ≡ front ++ 10 ∷ 10 ∷ []) ⊎ (bytes ≡ front ++ 10 ∷ 13 ∷ 10 ∷ []))

-- the head of the input is its first n bytes: the shortest front that ends so
pub record IsHeadEnd (input : List ℕ) (n : ℕ) : Type 0 where
  pub within : n ≤ length input
  pub few : n ≤ max_head
  pub ends : EndsWithEmptyLine (take n input)
  pub shortest : (k : ℕ) → k < n → ¬ EndsWithEmptyLine (take k input)

-- no front of the input that is short enough ends so
abbrev pub HasNoHead : List ℕ → Type 0
HasNoHead input = (k : ℕ) → k ≤ max_head → ¬ EndsWithEmptyLine (take k input)

-- ---- the same by computing

-- the number of bytes of the empty line at the front: LF or CR LF
abbrev pub empty_line_length : List ℕ → Option ℕ
empty_line_length [] = None
empty_line_length (b ∷ []) = if b == 10 then Some 1 else None
empty_line_length (b ∷ c ∷ rest) = if b == 10 then Some 1 else (if b == 13 then (if c == 10 then Some 2 else None) else None)

abbrev pub or_later : Option ℕ → Option ℕ → Option ℕ
or_later None later = later
or_later (Some n) later = Some n

-- the number of bytes of an LF at the front and the empty line after it
abbrev pub end_after_line_feed : List ℕ → Option ℕ
end_after_line_feed [] = None
end_after_line_feed (b ∷ rest) = if b == 10 then option_map suc (empty_line_length rest) else None

-- the number of bytes of the shortest front that ends with an empty line
unfoldable pub head_end : List ℕ → Option ℕ
head_end [] = None
head_end (b ∷ rest) = or_later (end_after_line_feed (b ∷ rest)) (option_map suc (head_end rest))

abbrev pub head_end_found : Option ℕ → ℕ → HeadEnd
head_end_found (Some n) len = Found n
head_end_found None len = if nat_lt len max_head then Short else TooLarge

-- where the head of an input ends, so far as it has come
unfoldable pub head_at : List ℕ → HeadEnd
head_at input = head_end_found (head_end (take max_head input)) (length input)
