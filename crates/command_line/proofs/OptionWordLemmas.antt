-- What clap makes of plain words after options.
use Rattle.command_line.proofs.Common.{◌≡◌, ◌∷◌, [], ℕ, List, None, false, inl, inr, refl, Rule, Text, Shape, Held, Walk, arg_by_id, option, option_word, walked, walk_fault, IsPlainWord}
use Rattle.command_line.proofs.PlainWordLemmas.{single}

-- the walk where the option with this id waits for its value
abbrev pub awaiting : Held → ℕ → Text → Walk
awaiting held position id = record { held = held; waiting = option id; position = position; is_trailing = false; stopped = None }

-- where it stands after a plain word
abbrev pub valued : List Rule → Held → ℕ → Text → Text → Walk
valued rules held position id word =
    record (awaiting held position id) { held = (option_word (arg_by_id rules id) id word held).0; waiting = (option_word (arg_by_id rules id) id word held).1 }

-- a plain word is the option's value
pub option_step : (rules : List Rule) (held : Held) (position : ℕ) (id word : Text) → IsPlainWord word
    → walked rules [] (awaiting held position id) word ≡ valued rules held position id word
unfolding walked
option_step rules held position id word (inl dash) = rw dash refl
option_step rules held position id [] (inr differs) = refl
option_step rules held position id (x ∷ rest) (inr differs) = rw (single x rest differs, single x rest differs) refl

-- and fails for nothing
pub option_fault : (s : Shape) (held : Held) (position : ℕ) (id word : Text) (rest : List Text) → IsPlainWord word
    → walk_fault s [] (awaiting held position id) (word ∷ rest) ≡ walk_fault s [] (valued s.rules held position id word) rest
unfolding walk_fault walked
option_fault s held position id word rest (inl dash) = rw dash refl
option_fault s held position id [] rest (inr differs) = refl
option_fault s held position id (x ∷ more) rest (inr differs) = rw (single x more differs, single x more differs) refl
