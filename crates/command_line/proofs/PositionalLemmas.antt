-- What clap makes of plain words in their places: of one, of two and of five.
use Rattle.command_line.proofs.Common.{◌∷◌, [], List, refl, Text, Held, nothing_held, defaults_fault, IsPlainWord, command_of_subcommand, Subcommand, Ask, Check, Explain, Pack, Policy, Replay, Unpack}
use Rattle.command_line.proofs.WordWalkLemmas.{FindsHeld, held_after, shape_of, words_find}

-- what is held after plain words alone
abbrev pub held : Subcommand → List Text → Held
held s words = held_after (shape_of s).rules nothing_held 1 words

-- ---- one word

pub check_finds : (a : Text) → IsPlainWord a → FindsHeld Check (a ∷ []) (held Check (a ∷ []))
unfolding command_of_subcommand defaults_fault
check_finds a a_is = words_find Check (a ∷ []) 2 refl (a_is, tt) (refl, refl, tt) refl

pub replay_finds : (a : Text) → IsPlainWord a → FindsHeld Replay (a ∷ []) (held Replay (a ∷ []))
unfolding command_of_subcommand defaults_fault
replay_finds a a_is = words_find Replay (a ∷ []) 2 refl (a_is, tt) (refl, refl, tt) refl

-- ---- two words

pub pack_finds : (a b : Text) → IsPlainWord a → IsPlainWord b → FindsHeld Pack (a ∷ b ∷ []) (held Pack (a ∷ b ∷ []))
unfolding command_of_subcommand defaults_fault
pack_finds a b a_is b_is = words_find Pack (a ∷ b ∷ []) 3 refl (a_is, (b_is, tt)) (refl, refl, (refl, refl, tt)) refl

pub unpack_finds : (a b : Text) → IsPlainWord a → IsPlainWord b → FindsHeld Unpack (a ∷ b ∷ []) (held Unpack (a ∷ b ∷ []))
unfolding command_of_subcommand defaults_fault
unpack_finds a b a_is b_is = words_find Unpack (a ∷ b ∷ []) 3 refl (a_is, (b_is, tt)) (refl, refl, (refl, refl, tt)) refl

pub policy_finds : (a b : Text) → IsPlainWord a → IsPlainWord b → FindsHeld Policy (a ∷ b ∷ []) (held Policy (a ∷ b ∷ []))
unfolding command_of_subcommand defaults_fault
policy_finds a b a_is b_is = words_find Policy (a ∷ b ∷ []) 3 refl (a_is, (b_is, tt)) (refl, refl, (refl, refl, tt)) refl

pub ask_finds : (a b : Text) → IsPlainWord a → IsPlainWord b → FindsHeld Ask (a ∷ b ∷ []) (held Ask (a ∷ b ∷ []))
unfolding command_of_subcommand defaults_fault
ask_finds a b a_is b_is = words_find Ask (a ∷ b ∷ []) 3 refl (a_is, (b_is, tt)) (refl, refl, (refl, refl, tt)) refl

-- ---- five words

pub explain_finds : (p c a k l : Text) → IsPlainWord p → IsPlainWord c → IsPlainWord a → IsPlainWord k → IsPlainWord l
    → FindsHeld Explain (p ∷ c ∷ a ∷ k ∷ l ∷ []) (held Explain (p ∷ c ∷ a ∷ k ∷ l ∷ []))
unfolding command_of_subcommand defaults_fault
explain_finds p c a k l p_is c_is a_is k_is l_is =
    words_find Explain (p ∷ c ∷ a ∷ k ∷ l ∷ []) 6 refl (p_is, (c_is, (a_is, (k_is, (l_is, tt)))))
    (refl, refl, (refl, refl, (refl, refl, (refl, refl, (refl, refl, tt))))) refl
