-- Lines that are written in plain words.
use Rattle.command_line.proofs.Common.{◌≡◌, ◌⊎◌, ◌∷◌, ◌∙◌, ◌^◌, ◌<◌, ◌==◌, [], ℕ, List, Option, Some, None, Result, Ok, Err, IfErr, IfSome, ap, arith, codes, decimal, false, inl, inr, refl, subst, sym, true, unwrap_or, IsNumeral, false≢true, Text, Date, IsDay, day_text, AskNothing, Asks, FindsDay, IsPlainLine, IsPlainQuestion, IsPlainWord, IsQuestion, WritesNumber, command_of_subcommand, name_word, values_for, with_day, words_of, Line, Explain, UseFault, Memory}
use Rattle.std.proofs.lemmas.Fmt.{decimal_is_IsNumeral}
use Rattle.commands.specs.declared.asked.Asked.{Asked}
use Rattle.office_core.specs.Actions.{action_text}
use Rattle.office_core.specs.declared.action.Action.{Action}
use Rattle.office_core.specs.declared.action.Action.TheVariants.{Class}
use Rattle.command_line.specs.declared.line.Line.TheVariants as lines
use Rattle.command_line.proofs.ExplainWordLemmas.{explain_with_finds}
use Rattle.command_line.proofs.PositionalLemmas.{ask_finds, check_finds, explain_finds, pack_finds, policy_finds, replay_finds, unpack_finds}
use Rattle.command_line.proofs.ReplayWordLemmas.{replay_with_finds}
use Rattle.command_line.proofs.ServeWordLemmas.{serve_finds}

-- ---- words that are more than texts

-- the digits of a number are a plain word
numeral_is_plain : (ds : Text) → IsNumeral 10 ds → IsPlainWord ds
numeral_is_plain [] is = absurd (omega (arith, is.0))
numeral_is_plain (x ∷ ds) is = inr (λ dash.
    let minus : x ≡ 45 = ap (λ o. unwrap_or o x) dash in
    let digit = subst (λ (c : ℕ). IsNumeral 10 (c ∷ ds)) minus is in
    omega (arith, digit.1.0))

decimal_is_plain : (n : ℕ) → n < 2 ^ 64 → IsPlainWord (decimal n)
decimal_is_plain n lt = numeral_is_plain (decimal n) (decimal_is_IsNumeral n lt).0

writes : (n : ℕ) → n < 2 ^ 64 → WritesNumber (decimal n) n
writes n lt = decimal_is_IsNumeral n lt

-- so is a day
day_is_plain : (day : Date) → IsPlainWord (day_text day)
day_is_plain day = inr (λ dash. let digit = ap (λ o. unwrap_or o 0) dash in omega (arith, digit))

-- and an action
starts_otherwise : (x : ℕ) (rest : Text) → (x == 45) ≡ false → IsPlainWord (x ∷ rest)
starts_otherwise x rest other = inr (λ e. let same : x ≡ 45 = ap (λ o. unwrap_or o x) e in let hit : (x == 45) ≡ true = rw same refl in false≢true (sym other ∙ hit))

action_is_plain : (action : Action) → IsPlainWord (action_text action)
action_is_plain Class = starts_otherwise _ _ refl
action_is_plain _ = starts_otherwise _ _ refl

-- ---- lines

-- the words after the day that ask for what `explain` is asked
abbrev asked_words : Asked → List Text
asked_words asked = asked.policy.now ∷ asked.caller.now ∷ action_text asked.action ∷ name_word asked.collection ∷ name_word asked.class ∷ []

-- the values in them, beside the day
asked_values : (values : Text → Option Text) (asked : Asked) → IsPlainQuestion asked → FindsDay values (codes "DAY") asked.day
    → values (codes "POLICY") ≡ Some asked.policy.now → values (codes "CALLER") ≡ Some asked.caller.now → values (codes "ACTION") ≡ Some (action_text asked.action)
    → values (codes "COLLECTION") ≡ Some (name_word asked.collection) → values (codes "CLASS") ≡ Some (name_word asked.class) → IsQuestion values asked
asked_values values asked plain day policy caller action collection class = record {
  day = day;
  policy = policy;
  caller = caller;
  action = action;
  collection = (name_word asked.collection, collection, (plain.collection.1, refl));
  class = (name_word asked.class, class, (plain.class.1, refl));
}

-- with a day before them, or with none
plain_question : (asked : Asked) (day : Option Date) → asked.day ≡ day → IsPlainQuestion asked → Asks (codes "explain" ∷ with_day day (asked_words asked)) (lines.Explain asked)
unfolding command_of_subcommand
plain_question asked None is plain =
    let has = explain_finds asked.policy.now asked.caller.now (action_text asked.action) (name_word asked.collection) (name_word asked.class)
    plain.policy plain.caller (action_is_plain asked.action) plain.collection.0 plain.class.0 in
    let values : Text → Option Text = values_for Explain (codes "explain" ∷ asked_words asked) in
    let day = subst (FindsDay values (codes "DAY")) (sym is) (has.at (codes "DAY")) in
    record {
      first = refl;
      taken = has.taken;
      values = asked_values values asked plain day (has.at (codes "POLICY")) (has.at (codes "CALLER")) (has.at (codes "ACTION")) (has.at (codes "COLLECTION")) (has.at (codes "CLASS"));
    }
plain_question asked (Some date) is plain =
    let has = explain_with_finds (day_text date) asked.policy.now asked.caller.now (action_text asked.action) (name_word asked.collection) (name_word asked.class)
    (day_is_plain date) plain.policy plain.caller (action_is_plain asked.action) plain.collection.0 plain.class.0 in
    let values : Text → Option Text = values_for Explain (codes "explain" ∷ codes "--day" ∷ day_text date ∷ asked_words asked) in
    let is_day = subst (λ (d : Option Date). IfSome d IsDay) is plain.day in
    let day = subst (FindsDay values (codes "DAY")) (sym is) (day_text date, has.at (codes "DAY"), (is_day, refl)) in
    record {
      first = refl;
      taken = has.taken;
      values = asked_values values asked plain day (has.at (codes "POLICY")) (has.at (codes "CALLER")) (has.at (codes "ACTION")) (has.at (codes "COLLECTION")) (has.at (codes "CLASS"));
    }

-- the words that are written for a line ask for it
plain_line : (line : Line) → IsPlainLine line → Asks (words_of line) line
unfolding command_of_subcommand
plain_line (lines.Check file) plain =
    let has = check_finds file.now plain in
    record { first = refl; taken = has.taken; values = has.at (codes "FILE") }
plain_line (lines.Pack folder file) plain =
    let has = pack_finds folder.now file.now plain.0 plain.1 in
    record { first = refl; taken = has.taken; values = (has.at (codes "DIR"), has.at (codes "FILE")) }
plain_line (lines.Unpack file folder) plain =
    let has = unpack_finds file.now folder.now plain.0 plain.1 in
    record { first = refl; taken = has.taken; values = (has.at (codes "FILE"), has.at (codes "DIR")) }
plain_line (lines.Explain asked) plain = plain_question asked asked.day refl plain
plain_line (lines.Policy store policy) plain =
    let has = policy_finds store.now policy.now plain.0 plain.1 in
    record { first = refl; taken = has.taken; values = (has.at (codes "STORE"), has.at (codes "POLICY")) }
plain_line (lines.Ask store day) plain =
    let has = ask_finds store.now (day_text day) plain.0 (day_is_plain day) in
    record { first = refl; taken = has.taken; values = (has.at (codes "STORE"), (day_text day, has.at (codes "DAY"), (plain.1, refl))) }
plain_line (lines.Replay None store) plain =
    let has = replay_finds store.now plain in
    record { first = refl; taken = has.taken; values = (has.at (codes "POLICY"), has.at (codes "STORE")) }
plain_line (lines.Replay (Some policy) store) plain =
    let has = replay_with_finds policy.now store.now plain.0 plain.1 in
    record { first = refl; taken = has.taken; values = (has.at (codes "POLICY"), has.at (codes "STORE")) }
plain_line (lines.Serve port count store day) plain =
    let p = decimal_is_plain port (omega (arith, plain.0)) in
    let n = decimal_is_plain count (omega (arith, plain.2)) in
    let has = serve_finds (decimal port) (decimal count) store.now (day_text day) p n plain.3 (day_is_plain day) in
    record {
      first = refl;
      taken = has.taken;
      values = record {
        at_port = (decimal port, has.at (codes "P"), (writes port (omega (arith, plain.0)), plain.0));
        at_count = (decimal count, has.at (codes "N"), (writes count (omega (arith, plain.2)), plain.1, plain.2));
        at_store = has.at (codes "STORE");
        at_day = (day_text day, has.at (codes "DAY"), (plain.4, refl));
      };
    }

-- words that ask for a line are refused for lack of memory alone
memory_alone : (words : List Text) (read : Result Line UseFault) (line : Line) → Asks words line → IfErr read (λ fault. (fault ≡ Memory) ⊎ AskNothing words)
    → IfErr read (λ fault. fault ≡ Memory)
memory_alone words (Ok l) line asks refused = tt
memory_alone words (Err fault) line asks (inl memory) = memory
memory_alone words (Err fault) line asks (inr none) = absurd (none line asks)

-- a line that is written in plain words is read of them
pub plain_is_read : (words : List Text) (read : Result Line UseFault) (line : Line) → IsPlainLine line → words ≡ words_of line
    → IfErr read (λ fault. (fault ≡ Memory) ⊎ AskNothing words) → Asks words line × IfErr read (λ fault. fault ≡ Memory)
plain_is_read words read line plain are refused =
    let asks : Asks words line = subst (λ ws. Asks ws line) (sym are) (plain_line line plain) in
    (asks, memory_alone words read line asks refused)
