-- What clap makes of the words of `replay` with a policy, where they are plain.
use Rattle.command_line.proofs.Common.{◌≡◌, ◌∷◌, ◌∙◌, [], List, Some, fold, refl, ap, codes, Text, Held, Walk, nothing_held, pushed, settled, walk, walk_from, walked, defaults_fault, walk_fault, IsPlainWord, command_of_subcommand, Replay}
use Rattle.command_line.proofs.PlainWordLemmas.{before}
use Rattle.command_line.proofs.OptionWordLemmas.{awaiting, option_fault, option_step}
use Rattle.command_line.proofs.WordWalkLemmas.{Ends, FindsHeld, Takes, finds_held, held_after, shape_of, words_pass, words_walk}

-- after `--policy`
abbrev pub held_1 : Held
held_1 = record (settled (shape_of Replay).rules nothing_held) { pending = Some (codes "POLICY", []) }

-- after its value
abbrev pub held_2 : Text → Held
held_2 p = pushed (codes "POLICY") p held_1

-- after a word
abbrev pub held_3 : Text → Text → Held
held_3 p s = held_after (shape_of Replay).rules (held_2 p) 1 (s ∷ [])

taken : (p s : Text) → Takes (shape_of Replay) (held_2 p) 1 (s ∷ [])
unfolding command_of_subcommand
taken p s = (refl, refl, tt)

policy_named : walked (shape_of Replay).rules [] (before nothing_held 1) (codes "--policy") ≡ awaiting held_1 1 (codes "POLICY")
unfolding command_of_subcommand walked
policy_named = refl

walk_over : (p s : Text) → IsPlainWord p → IsPlainWord s
    → walk (shape_of Replay).rules [] nothing_held (codes "--policy" ∷ p ∷ s ∷ []) ≡ before (held_3 p s) 2
unfolding command_of_subcommand
walk_over p s p_is s_is =
    ap (λ (w : Walk). fold (walked (shape_of Replay).rules []) w (p ∷ s ∷ [])) policy_named
    ∙ ap (λ (w : Walk). fold (walked (shape_of Replay).rules []) w (s ∷ [])) (option_step (shape_of Replay).rules held_1 1 (codes "POLICY") p p_is)
    ∙ words_walk (shape_of Replay) (held_2 p) 1 2 (s ∷ []) refl (s_is, tt) (taken p s)

policy_passes : (rest : List Text)
    → walk_fault (shape_of Replay) [] (before nothing_held 1) (codes "--policy" ∷ rest) ≡ walk_fault (shape_of Replay) [] (awaiting held_1 1 (codes "POLICY")) rest
unfolding command_of_subcommand walk_fault walked
policy_passes rest = refl

faults_over : (p s : Text) → IsPlainWord p → IsPlainWord s
    → walk_fault (shape_of Replay) [] (walk_from nothing_held) (codes "--policy" ∷ p ∷ s ∷ []) ≡ []
unfolding command_of_subcommand walk_fault
faults_over p s p_is s_is =
    policy_passes (p ∷ s ∷ [])
    ∙ option_fault (shape_of Replay) held_1 1 (codes "POLICY") p (s ∷ []) p_is
    ∙ words_pass (shape_of Replay) (held_2 p) 1 (s ∷ []) (s_is, tt) (taken p s)

ends : (p s : Text) → IsPlainWord p → IsPlainWord s → Ends (shape_of Replay) (codes "--policy" ∷ p ∷ s ∷ []) (held_3 p s) 2
unfolding command_of_subcommand defaults_fault
ends p s p_is s_is = record { walks = walk_over p s p_is s_is; passes = faults_over p s p_is s_is; clear = refl }

pub replay_with_finds : (p s : Text) → IsPlainWord p → IsPlainWord s → FindsHeld Replay (codes "--policy" ∷ p ∷ s ∷ []) (held_3 p s)
replay_with_finds p s p_is s_is = finds_held Replay (codes "--policy" ∷ p ∷ s ∷ []) (held_3 p s) 2 (ends p s p_is s_is)
