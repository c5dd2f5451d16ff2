-- What clap makes of a subcommand's words, from where its walk over them ends.
use Rattle.command_line.proofs.Common.{◌≡◌, ◌+◌, ◌∷◌, ◌∙◌, [], ℕ, List, length, ap, fold, refl, arith, AllByRecursion, Rule, Text, built, fault_of, first_of, Kinds, or_else, Shape, Held, Walk, finished, nothing_held, value, walk, walk_from, walked, step_fault, walk_fault, IsPlainWord, command_of_subcommand, name_text, values_for, Subcommand, Check}
use Rattle.command_line.proofs.PlainWordLemmas.{after, before, faults_after, plain_fault, plain_walk}

-- the walk over the words ends with this held, before the positional with this number, and nothing fails
pub record Ends (shape : Shape) (words : List Text) (held : Held) (position : ℕ) : Type 0 where
  pub walks : walk shape.rules [] nothing_held words ≡ before held position
  pub passes : walk_fault shape [] (walk_from nothing_held) words ≡ []
  pub clear : faults_after shape (before held position) ≡ []

-- then clap takes them
nothing_fails : (shape : Shape) (words : List Text) (held : Held) (position : ℕ) → Ends shape words held position
    → or_else (walk_fault shape [] (walk_from nothing_held) words) (faults_after shape (walk shape.rules [] nothing_held words)) ≡ []
nothing_fails shape words held position ends =
    ap (λ (end : Walk). or_else (walk_fault shape [] (walk_from nothing_held) words) (faults_after shape end)) ends.walks
    ∙ ap (λ (kinds : Kinds). or_else kinds (faults_after shape (before held position))) ends.passes
    ∙ ends.clear

-- and finds_held the values that are held
is_found : (shape : Shape) (words : List Text) (held : Held) (position : ℕ) → Ends shape words held position → (name : Text)
    → first_of name (finished shape.rules (walk shape.rules [] nothing_held words).held) ≡ first_of name (finished shape.rules held)
is_found shape words held position ends name = ap (λ (end : Walk). first_of name (finished shape.rules end.held)) ends.walks

-- ---- of a subcommand

abbrev pub shape_of : Subcommand → Shape
shape_of subcommand = (built (command_of_subcommand subcommand)).top

-- clap takes the words after the subcommand's name, and finds_held what is held
pub record FindsHeld (subcommand : Subcommand) (rest : List Text) (held : Held) : Type 0 where
  pub taken : fault_of (command_of_subcommand subcommand) (name_text subcommand ∷ rest) ≡ []
  pub at : (name : Text) → values_for subcommand (name_text subcommand ∷ rest) name ≡ first_of name (finished (shape_of subcommand).rules held)

pub finds_held : (subcommand : Subcommand) (rest : List Text) (held : Held) (position : ℕ) → Ends (shape_of subcommand) rest held position → FindsHeld subcommand rest held
unfolding command_of_subcommand
finds_held Check rest held position ends = record { taken = nothing_fails (shape_of Check) rest held position ends; at = is_found (shape_of Check) rest held position ends }
finds_held subcommand rest held position ends = record { taken = nothing_fails (shape_of subcommand) rest held position ends; at = is_found (shape_of subcommand) rest held position ends }

-- ---- plain words, each of which goes to the next positional

-- what is held after them, where the first goes to the positional with this number
abbrev pub held_after : List Rule → Held → ℕ → List Text → Held
held_after rules held position [] = held
held_after rules held position (word ∷ rest) = held_after rules (after rules held position word).held (position + 1) rest

-- each positional takes one word, and none fails
abbrev pub Takes : Shape → Held → ℕ → List Text → Type 0
Takes shape held position [] = Unit {0}
Takes shape held position (word ∷ rest) =
    (after shape.rules held position word ≡ before (after shape.rules held position word).held (position + 1))
    × (step_fault shape position held value ≡ [])
    × Takes shape (after shape.rules held position word).held (position + 1) rest

-- then the walk goes on over all of them
pub words_walk : (shape : Shape) (held : Held) (position end : ℕ) (words : List Text) → position + length words ≡ end → AllByRecursion IsPlainWord words → Takes shape held position words
    → fold (walked shape.rules []) (before held position) words ≡ before (held_after shape.rules held position words) end
words_walk shape held position end [] ends plain takes = let same : position ≡ end = omega (arith, ends) in ap (before held) same
words_walk shape held position end (word ∷ rest) ends plain takes =
    let more : position + 1 + length rest ≡ end = omega (arith, ends) in
    plain_walk shape.rules held position word rest plain.0
    ∙ ap (λ (w : Walk). fold (walked shape.rules []) w rest) takes.0
    ∙ words_walk shape (after shape.rules held position word).held (position + 1) end rest more plain.1 takes.2

-- and fails for none of them
pub words_pass : (shape : Shape) (held : Held) (position : ℕ) (words : List Text) → AllByRecursion IsPlainWord words → Takes shape held position words
    → walk_fault shape [] (before held position) words ≡ []
unfolding walk_fault
words_pass shape held position [] plain takes = refl
words_pass shape held position (word ∷ rest) plain takes =
    plain_fault shape held position word rest plain.0
    ∙ ap (λ (k : Kinds). or_else k (walk_fault shape [] (after shape.rules held position word) rest)) takes.1
    ∙ ap (λ (w : Walk). walk_fault shape [] w rest) takes.0
    ∙ words_pass shape (after shape.rules held position word).held (position + 1) rest plain.1 takes.2

-- clap takes such words after a subcommand's name
pub words_find : (subcommand : Subcommand) (words : List Text) (end : ℕ) → 1 + length words ≡ end → AllByRecursion IsPlainWord words → Takes (shape_of subcommand) nothing_held 1 words
    → faults_after (shape_of subcommand) (before (held_after (shape_of subcommand).rules nothing_held 1 words) end) ≡ []
    → FindsHeld subcommand words (held_after (shape_of subcommand).rules nothing_held 1 words)
words_find subcommand words end ends plain takes clear =
    finds_held subcommand words (held_after (shape_of subcommand).rules nothing_held 1 words) end (record {
      walks = words_walk (shape_of subcommand) nothing_held 1 end words ends plain takes;
      passes = words_pass (shape_of subcommand) nothing_held 1 words plain takes;
      clear = clear;
    })
