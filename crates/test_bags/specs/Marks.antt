-- What a text with marks means.
use Rattle.std.specs.Prelude.{◌≡◌, ◌==◌, if◌then◌else◌, ℕ, List, [], ◌∷◌, map}
use Rattle.std.specs.Str.Pattern.{FindsText}
use Rattle.std.specs.Str.Replace.{ReplacesMatches}
use denote.Ref.{Bor}
use Rattle.test_bags.specs.declared.marks.TheConstants.{MARKS}

-- each mark and what it means
unfoldable pub all_marks : List (List ℕ × List ℕ)
all_marks = map (λ mark. (mark.0.now, mark.1.now)) MARKS

-- the texts that a table of marks lends
abbrev pub texts : List (Bor (List ℕ) × Bor (List ℕ)) → List (List ℕ × List ℕ)
texts = map (λ mark. (mark.0.now, mark.1.now))

-- told is given, with `meaning` in place of each `mark`
abbrev pub Replaces : List ℕ → List ℕ → List ℕ → List ℕ → Type 0
Replaces mark meaning given told = (n : ℕ) × ReplacesMatches FindsText (λ m k. k ≡ m) meaning n mark given told

-- each mark in turn is replaced by what it means
abbrev pub Means : List (List ℕ × List ℕ) → List ℕ → List ℕ → Type 0
Means [] given told = told ≡ given
Means (mark ∷ more) given told = (between : List ℕ) × Replaces mark.0 mark.1 given between × Means more between told

-- two control characters stand for bytes that no text has
abbrev pub byte_meant : ℕ → ℕ
byte_meant byte = if byte == 1 then 0xFF else if byte == 2 then 0x8B else byte
