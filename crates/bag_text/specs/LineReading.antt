-- What reading one line gives.
use Rattle.std.specs.Prelude.{ℕ, List, [], ◌∷◌, ◌==◌, ◌&&◌, take, drop, if◌then◌else◌}
use Rattle.std.specs.List.{position_or_len}
use Rattle.bag_text.specs.Text.{begins_with}
use Rattle.bag_text.specs.Lines.{is_end}

abbrev pub after_end_of : List ℕ → List ℕ
after_end_of [] = []
after_end_of (b ∷ t) = if b == 13 && begins_with 10 t then drop 1 t else t

-- the first line of a text, and what follows its end
abbrev pub first_line : List ℕ → List ℕ
first_line t = take (position_or_len is_end t) t

abbrev pub after_first_line : List ℕ → List ℕ
after_first_line t = after_end_of (drop (position_or_len is_end t) t)
