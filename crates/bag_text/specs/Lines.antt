-- The lines of a text, as of each tag file (RFC 8493, section 2.3): a line ends at LF, at CR or at
-- CRLF, which is one end. After the last end an empty rest is no line, so the last line may lack its end.
use Rattle.std.specs.Prelude.{◌≡◌, ℕ, ◌-◌, Bool, false, Option, None, slice_get, List, [], ◌∷◌, ◌++◌, ◌==◌, ◌&&◌, ◌||◌, ◌⊎◌, ◌≢◌, if◌then◌else◌}
use Rattle.std.specs.List.{list_any, onto_first}
use Rattle.bag_text.specs.Text.{begins_with}

abbrev pub is_end : ℕ → Bool
is_end b = b == 10 || b == 13

pub data End : Type 0 where
  LF : End
  CR : End
  CRLF : End

abbrev pub end_bytes : End → List ℕ
end_bytes LF = 10 ∷ []
end_bytes CR = 13 ∷ []
end_bytes CRLF = 13 ∷ 10 ∷ []

-- no CR ends a line right before an LF: the two are one end
abbrev pub EndsBefore : End → List ℕ → Type 0
EndsBefore LF rest = Unit {0}
EndsBefore CR rest = begins_with 10 rest ≡ false
EndsBefore CRLF rest = Unit {0}

-- The text is these lines, each with its end, which the last one may lack where it isn't empty.
abbrev pub AreLines : List ℕ → List (List ℕ) → Type 0
AreLines t [] = t ≡ []
AreLines t (l ∷ ls) =
    (list_any is_end l ≡ false) ×
    (((t ≡ l) × (l ≢ []) × (ls ≡ []))
    ⊎ ((e : End) × (rest : List ℕ) × (t ≡ l ++ end_bytes e ++ rest) × EndsBefore e rest × AreLines rest ls))

-- The one list of lines that a text has. The CR of a CRLF is passed over: the LF after it ends the line.
unfoldable pub lines : List ℕ → List (List ℕ)
lines [] = []
lines (b ∷ t) =
    if b == 13 && begins_with 10 t then lines t
    else if is_end b then [] ∷ lines t
    else onto_first b (lines t)

-- the line of this number, from 1, where the text has that many lines
abbrev pub numbered_line : List ℕ → ℕ → Option (List ℕ)
numbered_line text number = if number == 0 then None else slice_get (lines text) (number - 1)
