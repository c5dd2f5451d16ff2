-- Words on bytes that several tag files share.
use Rattle.std.specs.Prelude.{◌≡◌, ℕ, Bool, true, false, List, [], ◌∷◌, length, map, take, ◌==◌, ◌&&◌, ◌||◌, bytes_eq, if◌then◌else◌}
use Rattle.std.specs.List.{list_all}
use denote.Ref.{Bor}

-- the texts that references lend
abbrev pub texts : List (Bor (List ℕ)) → List (List ℕ)
texts = map (λ text. text.now)

-- a space or a tab
abbrev pub is_blank : ℕ → Bool
is_blank b = b == 32 || b == 9

abbrev pub AreBlanks : List ℕ → Type 0
AreBlanks t = list_all is_blank t ≡ true

abbrev pub begins_with : ℕ → List ℕ → Bool
begins_with b [] = false
begins_with b (c ∷ t) = c == b

-- EF BB BF
abbrev pub has_mark : List ℕ → Bool
has_mark text = bytes_eq (take 3 text) (239 ∷ 187 ∷ 191 ∷ [])

-- without the first blanks, the last ones, and both
abbrev pub skip_blanks : List ℕ → List ℕ
skip_blanks [] = []
skip_blanks (b ∷ t) = if is_blank b then skip_blanks t else b ∷ t

abbrev pub drop_last_blanks : List ℕ → List ℕ
drop_last_blanks [] = []
drop_last_blanks (b ∷ t) = if is_blank b && length (drop_last_blanks t) == 0 then [] else b ∷ drop_last_blanks t

abbrev pub trim_blanks : List ℕ → List ℕ
trim_blanks t = drop_last_blanks (skip_blanks t)
