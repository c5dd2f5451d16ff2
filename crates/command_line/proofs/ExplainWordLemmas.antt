-- What clap makes of the words of `explain` with a day, where they are plain.
use Rattle.command_line.proofs.Common.{◌≡◌, ◌+◌, ◌∷◌, ◌∙◌, [], ℕ, List, length, Some, fold, refl, ap, codes, AllByRecursion, Text, Held, Walk, nothing_held, pushed, settled, walk, walk_from, walked, defaults_fault, walk_fault, IsPlainWord, command_of_subcommand, Explain}
use Rattle.command_line.proofs.PlainWordLemmas.{before}
use Rattle.command_line.proofs.OptionWordLemmas.{awaiting, option_fault, option_step}
use Rattle.command_line.proofs.WordWalkLemmas.{Ends, FindsHeld, Takes, finds_held, held_after, shape_of, words_pass, words_walk}

-- after `--day`
abbrev pub held_1 : Held
held_1 = record (settled (shape_of Explain).rules nothing_held) { pending = Some (codes "DAY", []) }

-- after its value
abbrev pub held_2 : Text → Held
held_2 d = pushed (codes "DAY") d held_1

-- after the words that follow
abbrev pub held_3 : Text → List Text → Held
held_3 d words = held_after (shape_of Explain).rules (held_2 d) 1 words

day_named : walked (shape_of Explain).rules [] (before nothing_held 1) (codes "--day") ≡ awaiting held_1 1 (codes "DAY")
unfolding command_of_subcommand walked
day_named = refl

walk_over : (d : Text) (words : List Text) (end : ℕ) → 1 + length words ≡ end → IsPlainWord d → AllByRecursion IsPlainWord words → Takes (shape_of Explain) (held_2 d) 1 words
    → walk (shape_of Explain).rules [] nothing_held (codes "--day" ∷ d ∷ words) ≡ before (held_3 d words) end
unfolding command_of_subcommand
walk_over d words end ends d_is plain takes =
    ap (λ (w : Walk). fold (walked (shape_of Explain).rules []) w (d ∷ words)) day_named
    ∙ ap (λ (w : Walk). fold (walked (shape_of Explain).rules []) w words) (option_step (shape_of Explain).rules held_1 1 (codes "DAY") d d_is)
    ∙ words_walk (shape_of Explain) (held_2 d) 1 end words ends plain takes

day_passes : (rest : List Text)
    → walk_fault (shape_of Explain) [] (before nothing_held 1) (codes "--day" ∷ rest) ≡ walk_fault (shape_of Explain) [] (awaiting held_1 1 (codes "DAY")) rest
unfolding command_of_subcommand walk_fault walked
day_passes rest = refl

faults_over : (d : Text) (words : List Text) → IsPlainWord d → AllByRecursion IsPlainWord words → Takes (shape_of Explain) (held_2 d) 1 words
    → walk_fault (shape_of Explain) [] (walk_from nothing_held) (codes "--day" ∷ d ∷ words) ≡ []
unfolding command_of_subcommand walk_fault
faults_over d words d_is plain takes =
    day_passes (d ∷ words)
    ∙ option_fault (shape_of Explain) held_1 1 (codes "DAY") d words d_is
    ∙ words_pass (shape_of Explain) (held_2 d) 1 words plain takes

taken : (d p c a k l : Text) → Takes (shape_of Explain) (held_2 d) 1 (p ∷ c ∷ a ∷ k ∷ l ∷ [])
unfolding command_of_subcommand
taken d p c a k l = (refl, refl, (refl, refl, (refl, refl, (refl, refl, (refl, refl, tt)))))

ends : (d p c a k l : Text) → IsPlainWord d → AllByRecursion IsPlainWord (p ∷ c ∷ a ∷ k ∷ l ∷ [])
    → Ends (shape_of Explain) (codes "--day" ∷ d ∷ p ∷ c ∷ a ∷ k ∷ l ∷ []) (held_3 d (p ∷ c ∷ a ∷ k ∷ l ∷ [])) 6
unfolding command_of_subcommand defaults_fault
ends d p c a k l d_is plain = record {
  walks = walk_over d (p ∷ c ∷ a ∷ k ∷ l ∷ []) 6 refl d_is plain (taken d p c a k l);
  passes = faults_over d (p ∷ c ∷ a ∷ k ∷ l ∷ []) d_is plain (taken d p c a k l);
  clear = refl;
}

pub explain_with_finds : (d p c a k l : Text) → IsPlainWord d → IsPlainWord p → IsPlainWord c → IsPlainWord a → IsPlainWord k → IsPlainWord l
    → FindsHeld Explain (codes "--day" ∷ d ∷ p ∷ c ∷ a ∷ k ∷ l ∷ []) (held_3 d (p ∷ c ∷ a ∷ k ∷ l ∷ []))
explain_with_finds d p c a k l d_is p_is c_is a_is k_is l_is =
    finds_held Explain (codes "--day" ∷ d ∷ p ∷ c ∷ a ∷ k ∷ l ∷ []) (held_3 d (p ∷ c ∷ a ∷ k ∷ l ∷ [])) 6
    (ends d p c a k l d_is (p_is, (c_is, (a_is, (k_is, (l_is, tt))))))
