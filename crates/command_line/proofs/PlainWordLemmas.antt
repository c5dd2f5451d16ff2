-- What clap makes of plain words.
use Rattle.command_line.proofs.Common.{◌≡◌, ◌∷◌, [], ℕ, List, Bool, Some, None, true, false, refl, inl, inr, ap, fold, slice_get, ◌==◌, is_some, eqb-true, Rule, Text, Kinds, or_else, Shape, entered, Held, Walk, finished, idle, settled, value, arg_by_index, to_positional, walked, check_fault, defaults_fault, entered_fault, settle_fault, step_fault, walk_fault, IsPlainWord}

-- a byte that doesn't begin an option
pub single : (x : ℕ) (rest : Text) → (slice_get (x ∷ rest) 0 ≡ Some 45 → ⊥) → (x == 45) ≡ false
single x rest differs = go (x == 45) refl
  where
    go : (b : Bool) → (x == 45) ≡ b → (x == 45) ≡ false
    go false e = e
    go true e = absurd (differs (ap Some (eqb-true x 45 e)))

-- the walk where nothing waits for a value, before the positional with this number
abbrev pub before : Held → ℕ → Walk
before held position = record { held = held; waiting = idle; position = position; is_trailing = false; stopped = None }

-- where the walk stands after a plain word
abbrev pub after : List Rule → Held → ℕ → Text → Walk
after rules held position word = to_positional rules (arg_by_index rules position) word (before held position) held

plain_step : (rules : List Rule) (held : Held) (position : ℕ) (word : Text) → IsPlainWord word
    → walked rules [] (before held position) word ≡ after rules held position word
unfolding walked
plain_step rules held position word (inl dash) = rw dash refl
plain_step rules held position [] (inr differs) = refl
plain_step rules held position (x ∷ rest) (inr differs) = rw (single x rest differs, single x rest differs) refl

-- a plain word goes to the positional
pub plain_walk : (rules : List Rule) (held : Held) (position : ℕ) (word : Text) (rest : List Text) → IsPlainWord word
    → fold (walked rules []) (before held position) (word ∷ rest) ≡ fold (walked rules []) (after rules held position word) rest
plain_walk rules held position word rest plain = ap (λ (w : Walk). fold (walked rules []) w rest) (plain_step rules held position word plain)

-- and fails only where the positional doesn't take it
pub plain_fault : (s : Shape) (held : Held) (position : ℕ) (word : Text) (rest : List Text) → IsPlainWord word
    → walk_fault s [] (before held position) (word ∷ rest) ≡ or_else (step_fault s position held value) (walk_fault s [] (after s.rules held position word) rest)
unfolding walk_fault walked
plain_fault s held position word rest (inl dash) = rw dash refl
plain_fault s held position [] rest (inr differs) = refl
plain_fault s held position (x ∷ more) rest (inr differs) = rw (single x more differs, single x more differs) refl

-- what may fail after the walk, where it ends like this
abbrev pub faults_after : Shape → Walk → Kinds
faults_after s end =
    or_else (entered_fault (record { top = s; subs = [] }) end.stopped)
    (or_else (settle_fault s.rules s.args_override_self end.held)
    (or_else (defaults_fault (settled s.rules end.held).rows s.rules)
    (check_fault s (finished s.rules end.held) (is_some (entered (record { top = s; subs = [] }) end.stopped)))))
