-- What a writer has taken of a text.
use Rattle.std.specs.Prelude.{◌++◌, ℕ, List, Option, take}
use Rattle.std.specs.Io.KnownBytes.{Appends}

-- the text follows what the writer held, where that is known, and more may follow
abbrev pub GoesOnWith : List ℕ → Option (List ℕ) → Option (List ℕ) → Type 0
GoesOnWith text old new = (more : List ℕ) × Appends old new (text ++ more)

-- a beginning of the text follows: nothing, a part or all of it
abbrev pub IsCutShort : List ℕ → Option (List ℕ) → Option (List ℕ) → Type 0
IsCutShort text old new = (count : ℕ) × Appends old new (take count text)

-- something may follow
abbrev pub MayGrow : Option (List ℕ) → Option (List ℕ) → Type 0
MayGrow old new = (more : List ℕ) × Appends old new more
