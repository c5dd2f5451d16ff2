-- What clap makes of the words of `serve`, where they are plain.
use Rattle.command_line.proofs.Common.{◌≡◌, ◌∷◌, ◌∙◌, [], List, Some, fold, refl, ap, codes, Text, Held, Walk, nothing_held, pushed, settled, walk, walk_from, walked, defaults_fault, walk_fault, IsPlainWord, command_of_subcommand, Serve}
use Rattle.command_line.proofs.PlainWordLemmas.{before}
use Rattle.command_line.proofs.OptionWordLemmas.{awaiting, option_fault, option_step}
use Rattle.command_line.proofs.WordWalkLemmas.{Ends, FindsHeld, Takes, finds_held, held_after, shape_of, words_pass, words_walk}

-- after `--port`
abbrev pub held_1 : Held
held_1 = record (settled (shape_of Serve).rules nothing_held) { pending = Some (codes "P", []) }

-- after its value
abbrev pub held_2 : Text → Held
held_2 p = pushed (codes "P") p held_1

-- after `--count`
abbrev pub held_3 : Text → Held
held_3 p = record (settled (shape_of Serve).rules (held_2 p)) { pending = Some (codes "N", []) }

-- after its value
abbrev pub held_4 : Text → Text → Held
held_4 p n = pushed (codes "N") n (held_3 p)

-- after two words
abbrev pub held_5 : Text → Text → Text → Text → Held
held_5 p n s d = held_after (shape_of Serve).rules (held_4 p n) 1 (s ∷ d ∷ [])

taken : (p n s d : Text) → Takes (shape_of Serve) (held_4 p n) 1 (s ∷ d ∷ [])
unfolding command_of_subcommand
taken p n s d = (refl, refl, (refl, refl, tt))

port_named : walked (shape_of Serve).rules [] (before nothing_held 1) (codes "--port") ≡ awaiting held_1 1 (codes "P")
unfolding command_of_subcommand walked
port_named = refl

count_named : (p : Text) → walked (shape_of Serve).rules [] (before (held_2 p) 1) (codes "--count") ≡ awaiting (held_3 p) 1 (codes "N")
unfolding command_of_subcommand walked
count_named p = refl

walk_over : (p n s d : Text) → IsPlainWord p → IsPlainWord n → IsPlainWord s → IsPlainWord d
    → walk (shape_of Serve).rules [] nothing_held (codes "--port" ∷ p ∷ codes "--count" ∷ n ∷ s ∷ d ∷ []) ≡ before (held_5 p n s d) 3
unfolding command_of_subcommand
walk_over p n s d p_is n_is s_is d_is =
    ap (λ (w : Walk). fold (walked (shape_of Serve).rules []) w (p ∷ codes "--count" ∷ n ∷ s ∷ d ∷ [])) port_named
    ∙ ap (λ (w : Walk). fold (walked (shape_of Serve).rules []) w (codes "--count" ∷ n ∷ s ∷ d ∷ [])) (option_step (shape_of Serve).rules held_1 1 (codes "P") p p_is)
    ∙ ap (λ (w : Walk). fold (walked (shape_of Serve).rules []) w (n ∷ s ∷ d ∷ [])) (count_named p)
    ∙ ap (λ (w : Walk). fold (walked (shape_of Serve).rules []) w (s ∷ d ∷ [])) (option_step (shape_of Serve).rules (held_3 p) 1 (codes "N") n n_is)
    ∙ words_walk (shape_of Serve) (held_4 p n) 1 3 (s ∷ d ∷ []) refl (s_is, (d_is, tt)) (taken p n s d)

port_passes : (rest : List Text)
    → walk_fault (shape_of Serve) [] (before nothing_held 1) (codes "--port" ∷ rest) ≡ walk_fault (shape_of Serve) [] (awaiting held_1 1 (codes "P")) rest
unfolding command_of_subcommand walk_fault walked
port_passes rest = refl

count_passes : (p : Text) (rest : List Text)
    → walk_fault (shape_of Serve) [] (before (held_2 p) 1) (codes "--count" ∷ rest) ≡ walk_fault (shape_of Serve) [] (awaiting (held_3 p) 1 (codes "N")) rest
unfolding command_of_subcommand walk_fault walked
count_passes p rest = refl

faults_over : (p n s d : Text) → IsPlainWord p → IsPlainWord n → IsPlainWord s → IsPlainWord d
    → walk_fault (shape_of Serve) [] (walk_from nothing_held) (codes "--port" ∷ p ∷ codes "--count" ∷ n ∷ s ∷ d ∷ []) ≡ []
unfolding command_of_subcommand walk_fault
faults_over p n s d p_is n_is s_is d_is =
    port_passes (p ∷ codes "--count" ∷ n ∷ s ∷ d ∷ [])
    ∙ option_fault (shape_of Serve) held_1 1 (codes "P") p (codes "--count" ∷ n ∷ s ∷ d ∷ []) p_is
    ∙ count_passes p (n ∷ s ∷ d ∷ [])
    ∙ option_fault (shape_of Serve) (held_3 p) 1 (codes "N") n (s ∷ d ∷ []) n_is
    ∙ words_pass (shape_of Serve) (held_4 p n) 1 (s ∷ d ∷ []) (s_is, (d_is, tt)) (taken p n s d)

ends : (p n s d : Text) → IsPlainWord p → IsPlainWord n → IsPlainWord s → IsPlainWord d → Ends (shape_of Serve) (codes "--port" ∷ p ∷ codes "--count" ∷ n ∷ s ∷ d ∷ []) (held_5 p n s d) 3
unfolding command_of_subcommand defaults_fault
ends p n s d p_is n_is s_is d_is = record { walks = walk_over p n s d p_is n_is s_is d_is; passes = faults_over p n s d p_is n_is s_is d_is; clear = refl }

pub serve_finds : (p n s d : Text) → IsPlainWord p → IsPlainWord n → IsPlainWord s → IsPlainWord d
    → FindsHeld Serve (codes "--port" ∷ p ∷ codes "--count" ∷ n ∷ s ∷ d ∷ []) (held_5 p n s d)
serve_finds p n s d p_is n_is s_is d_is =
    finds_held Serve (codes "--port" ∷ p ∷ codes "--count" ∷ n ∷ s ∷ d ∷ []) (held_5 p n s d) 3 (ends p n s d p_is n_is s_is d_is)
