-- From what clap finds in the words to the line that they ask for.
use Rattle.command_line.proofs.Common.{◌≡◌, ◌∙◌, ◌⊎◌, ◌∷◌, [], List, Option, Some, None, Result, Ok, Err, IfErr, IfOk, if◌then◌else◌, ap, ap₂, codes, false, inl, inr, refl, slice_get, subst, sym, true, unwrap_or, list_any, bytes_eq, HasKind, IsAmong, App, Text, fault_of, first_value, found_of, kind_of, Error, ArgMatches, texts, IsLineOf, MakesNoLine, are_names, command_for, names_of, rules_for, AskNothing, Asks, HasValues, Names, command_of, command_of_subcommand, name_text, subcommand_rules, subcommand_of, value_under, values_for, Line, Subcommand, Ask, Check, Explain, Pack, Policy, Replay, Serve, Unpack, UseFault, Memory}
use Rattle.std.specs.Borrow.{Bor}
use Rattle.std.proofs.Math.Path.{fun_ext}
use Rattle.std.proofs.lemmas.Option.{none-some}
use Rattle.clap.specs.declared.error.kind.ErrorKind.TheVariants.{OutOfMemory}
use Rattle.command_line.specs.Usage.{help_words, no_subcommand_text, uses_text, usage_for_word}
use Rattle.command_line.specs.declared.words.Usage.{Usage}

-- ---- values

-- two answers to one question
pub same_some : {X : Type 0} (o : Option X) (x y : X) → o ≡ Some x → o ≡ Some y → x ≡ y
same_some o x y is is_too = ap (λ p. unwrap_or p x) (sym is ∙ is_too)

-- ---- the subcommands

-- and none takes two arguments of one name
pub has_names : (subcommand : Subcommand) → are_names (names_of (subcommand_rules subcommand)) ≡ true
has_names Check = refl
has_names _ = refl

-- the subcommand of a name
of_name : Text → Option Subcommand
of_name name =
    if bytes_eq name (codes "check") then Some Check
    else if bytes_eq name (codes "pack") then Some Pack
    else if bytes_eq name (codes "unpack") then Some Unpack
    else if bytes_eq name (codes "explain") then Some Explain
    else if bytes_eq name (codes "policy") then Some Policy
    else if bytes_eq name (codes "ask") then Some Ask
    else if bytes_eq name (codes "replay") then Some Replay
    else if bytes_eq name (codes "serve") then Some Serve
    else None

own_name : (subcommand : Subcommand) → of_name (name_text subcommand) ≡ Some subcommand
unfolding of_name
own_name Check = refl
own_name _ = refl

-- words name one subcommand
pub one_name : (words : List Text) (a b : Subcommand) → Names words a → Names words b → a ≡ b
one_name words a b is is_too =
    let same : name_text a ≡ name_text b = same_some _ (name_text a) (name_text b) is is_too in
    ap (λ o. unwrap_or o a) (sym (own_name a) ∙ ap of_name same ∙ own_name b)

-- ---- the first word

pub first_text : (words : List (Bor Text)) (word : Bor Text) → slice_get words 0 ≡ Some word → slice_get (texts words) 0 ≡ Some word.now
first_text [] word first = absurd (none-some word first)
first_text (x ∷ words) word first = ap (λ o. Some (unwrap_or o word).now) first

-- ---- lines

-- what clap finds under each name is what it finds in the words
abbrev pub AreFoundIn : Subcommand → List Text → ArgMatches → Type 0
AreFoundIn subcommand words matches = (wanted : Text) → first_value (found_of matches) wanted ≡ values_for subcommand words wanted

-- a line that the values make is asked for
pub line_asked : (words : List Text) (subcommand : Subcommand) (matches : ArgMatches) (line : Line) → Names words subcommand
    → fault_of (command_of_subcommand subcommand) words ≡ [] → AreFoundIn subcommand words matches → IsLineOf subcommand matches line → Asks words line
line_asked words subcommand matches line named taken found is = record {
  first = subst (Names words) (sym is.0) named;
  taken = subst (λ (s : Subcommand). fault_of (command_of_subcommand s) words ≡ []) (sym is.0) taken;
  values = subst (λ (s : Subcommand). HasValues (values_for s words) line) (sym is.0) (subst (λ (values : Text → Option Text). HasValues values line) (fun_ext found) is.1);
}

-- and the values make each line that is
made_line : (words : List Text) (subcommand : Subcommand) (matches : ArgMatches) (line : Line) → Names words subcommand → AreFoundIn subcommand words matches → Asks words line
    → IsLineOf subcommand matches line
made_line words subcommand matches line named found asks =
    let same : subcommand_of line ≡ subcommand = one_name words (subcommand_of line) subcommand asks.first named in (
      same,
      subst (λ (values : Text → Option Text). HasValues values line) (sym (fun_ext found)) (subst (λ (s : Subcommand). HasValues (values_for s words) line) same asks.values),
    )

pub nothing_made : (words : List Text) (subcommand : Subcommand) (matches : ArgMatches) → Names words subcommand → AreFoundIn subcommand words matches
    → MakesNoLine subcommand matches → AskNothing words
nothing_made words subcommand matches named found none line asks = none line (made_line words subcommand matches line named found asks)

-- words that clap doesn't take ask for nothing
pub not_taken : (words : List Text) (subcommand : Subcommand) → Names words subcommand → (fault_of (command_of_subcommand subcommand) words ≡ [] → ⊥) → AskNothing words
not_taken words subcommand named fault line asks =
    fault (subst (λ (s : Subcommand). fault_of (command_of_subcommand s) words ≡ []) (one_name words (subcommand_of line) subcommand asks.first named) asks.taken)

-- ---- what a command that is built for the subcommand makes of the words

-- it is the subcommand's command
pub same_command : (subcommand : Subcommand) (usage : Usage) → usage.name.now ≡ name_text subcommand → rules_for usage.arguments.now ≡ subcommand_rules subcommand
    → command_for usage ≡ command_of_subcommand subcommand
unfolding command_of_subcommand
same_command subcommand usage name rules = ap₂ command_of name rules

-- what it finds
abbrev pub AreFoundBy : App → List Text → ArgMatches → Type 0
AreFoundBy command words matches = (wanted : Text) → first_value (found_of matches) wanted ≡ value_under command wanted words

pub lines_asked : (words : List Text) (subcommand : Subcommand) (command : App) (matches : ArgMatches) (read : Result Line UseFault) → command ≡ command_of_subcommand subcommand
    → Names words subcommand → fault_of command words ≡ [] → AreFoundBy command words matches → IfOk read (IsLineOf subcommand matches) → IfOk read (Asks words)
lines_asked words subcommand command matches (Ok line) same named taken found is =
    line_asked words subcommand matches line named (subst (λ (c : App). fault_of c words ≡ []) same taken) (subst (λ (c : App). AreFoundBy c words matches) same found) is
lines_asked words subcommand command matches (Err fault) same named taken found is = tt

pub none_made : (words : List Text) (subcommand : Subcommand) (command : App) (matches : ArgMatches) (read : Result Line UseFault) → command ≡ command_of_subcommand subcommand
    → Names words subcommand → AreFoundBy command words matches → IfErr read (λ fault. (fault ≡ Memory) ⊎ MakesNoLine subcommand matches)
    → IfErr read (λ fault. (fault ≡ Memory) ⊎ AskNothing words)
none_made words subcommand command matches (Ok line) same named found why = tt
none_made words subcommand command matches (Err fault) same named found (inl memory) = inl memory
none_made words subcommand command matches (Err fault) same named found (inr none) =
    inr (nothing_made words subcommand matches named (subst (λ (c : App). AreFoundBy c words matches) same found) none)

-- words that clap refuses ask for nothing, unless memory ran out
pub refused_by_clap : (words : List Text) (subcommand : Subcommand) (command : App) (error : Error) (fault : UseFault) → command ≡ command_of_subcommand subcommand → Names words subcommand
    → HasKind (fault_of command words) error → (kind_of error ≡ OutOfMemory → fault ≡ Memory) → (fault ≡ Memory) ⊎ AskNothing words
refused_by_clap words subcommand command error fault same named (inl out) memory = inl (memory out)
refused_by_clap words subcommand command error fault same named (inr among) memory =
    inr (not_taken words subcommand named (subst (λ (c : App). fault_of c words ≡ [] → ⊥) same (λ none. subst (IsAmong (kind_of error)) none among)))

-- ---- words that name no subcommand

-- what is said of a word that doesn't ask for help
pub named_usage : (version word text : Text) → list_any (bytes_eq word) help_words ≡ false → text ≡ no_subcommand_text version word
    → text ≡ usage_for_word version word
named_usage version word text other is = is ∙ ap (λ help. if help then uses_text version else no_subcommand_text version word) (sym other)
