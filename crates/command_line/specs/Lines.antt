-- The subcommands, what clap is asked of each, and the line that words ask for.
use Rattle.std.specs.Prelude.{◌≡◌, ◌⊎◌, ◌≤◌, ◌∷◌, [], ℕ, IfSome, List, None, Option, Some, codes, decimal, fold, option_map, slice_get, true, unwrap_or}
use Rattle.std.specs.Str.Parse.{IsNumeral, digits_value}
use Rattle.clap.specs.Words.{App, Rule, Text, fault_of, first_of, matches_of, new_app, new_rule, with_rule}
use Rattle.clap.specs.declared.builder.ArgAction.TheVariants.{Set}
use Rattle.commands.specs.declared.asked.Asked.{Asked}
use Rattle.jiff.specs.Types.{Date}
use Rattle.office_core.specs.Actions.{action_text}
use Rattle.office_core.specs.Days.{IsDay, day_text}
use Rattle.office_core.specs.Names.{IsName}
use Rattle.command_line.specs.declared.line.Line.{Line}
use Rattle.command_line.specs.declared.line.Line.TheVariants as lines
use Rattle.command_line.specs.declared.subcommand.Subcommand.{Subcommand}
use Rattle.command_line.specs.declared.subcommand.Subcommand.TheVariants.{Ask, Check, Explain, Pack, Policy, Replay, Serve, Unpack}

-- ---- the subcommands

abbrev pub name_text : Subcommand → Text
name_text Check = codes "check"
name_text Pack = codes "pack"
name_text Unpack = codes "unpack"
name_text Explain = codes "explain"
name_text Policy = codes "policy"
name_text Ask = codes "ask"
name_text Replay = codes "replay"
name_text Serve = codes "serve"

-- a word with this name, which a command requires
abbrev pub wanted_word : Text → Rule
wanted_word name = record (new_rule name) { required = true; action = Some Set }

-- an option and its value, of this name, which a command requires
abbrev pub wanted_option : Text → Text → Rule
wanted_option option name = record (wanted_word name) { long = Some option }

-- one that may be left out
abbrev pub free_option : Text → Text → Rule
free_option option name = record (new_rule name) { long = Some option; action = Some Set }

-- what each subcommand takes, the words in their order
abbrev pub subcommand_rules : Subcommand → List Rule
subcommand_rules Check = wanted_word (codes "FILE") ∷ []
subcommand_rules Pack = wanted_word (codes "DIR") ∷ wanted_word (codes "FILE") ∷ []
subcommand_rules Unpack = wanted_word (codes "FILE") ∷ wanted_word (codes "DIR") ∷ []
subcommand_rules Explain =
    free_option (codes "day") (codes "DAY") ∷ wanted_word (codes "POLICY") ∷ wanted_word (codes "CALLER") ∷ wanted_word (codes "ACTION") ∷ wanted_word (codes "COLLECTION") ∷ wanted_word (codes "CLASS") ∷ []
subcommand_rules Policy = wanted_word (codes "STORE") ∷ wanted_word (codes "POLICY") ∷ []
subcommand_rules Ask = wanted_word (codes "STORE") ∷ wanted_word (codes "DAY") ∷ []
subcommand_rules Replay = free_option (codes "policy") (codes "POLICY") ∷ wanted_word (codes "STORE") ∷ []
subcommand_rules Serve =
    wanted_option (codes "port") (codes "P") ∷ wanted_option (codes "count") (codes "N") ∷ wanted_word (codes "STORE") ∷ wanted_word (codes "DAY") ∷ []

-- the command of this name that takes arguments with these rules, in this order
abbrev pub command_of : Text → List Rule → App
command_of name rules = fold with_rule (new_app name) rules

-- the command that clap reads the words of a subcommand with
unfoldable pub command_of_subcommand : Subcommand → App
command_of_subcommand subcommand = command_of (name_text subcommand) (subcommand_rules subcommand)

-- ---- values

-- the value that clap finds under this name, where it finds one
abbrev pub value_under : App → Text → List Text → Option Text
value_under command name words = first_of name (matches_of command words)

-- the values that clap finds for a subcommand, by their names
abbrev pub values_for : Subcommand → List Text → Text → Option Text
values_for subcommand words name = value_under (command_of_subcommand subcommand) name words

-- under this name there is a text, and of that text the fact holds
abbrev pub FindsText : (Text → Option Text) → Text → (Text → Type 0) → Type 0
FindsText values name P = (text : Text) × (values name ≡ Some text) × P text

-- one decimal digit or more, and nothing else, which write this number; it may begin with zeros
abbrev pub WritesNumber : Text → ℕ → Type 0
WritesNumber text number = IsNumeral 10 text × (digits_value 10 text ≡ number)

-- the highest port, and the most connections that a call serves
abbrev pub max_port : ℕ
max_port = 65_535

abbrev pub max_count : ℕ
max_count = 1_000_000

abbrev pub IsPort : Text → ℕ → Type 0
IsPort text port = WritesNumber text port × (port ≤ max_port)

abbrev pub IsCount : Text → ℕ → Type 0
IsCount text count = WritesNumber text count × (1 ≤ count) × (count ≤ max_count)

-- a day as `2024-03-01`
abbrev pub IsDayText : Text → Date → Type 0
IsDayText text day = IsDay day × (text ≡ day_text day)

-- how a name or none is written
abbrev pub name_word : Option Text → Text
name_word name = unwrap_or name (codes "-")

-- none, or a name that isn't taken for none
abbrev pub IsWritable : Option Text → Type 0
IsWritable None = Unit {0}
IsWritable (Some name) = IsName name × (name ≡ codes "-" → ⊥)

-- none for `-`, and a name for a name
abbrev pub IsNameOrNone : Text → Option Text → Type 0
IsNameOrNone text name = IsWritable name × (text ≡ name_word name)

-- under this name there is this day, or nothing
abbrev pub FindsDay : (Text → Option Text) → Text → Option Date → Type 0
FindsDay values name None = values name ≡ None
FindsDay values name (Some day) = FindsText values name (λ text. IsDayText text day)

-- what `explain` is asked
pub record IsQuestion (values : Text → Option Text) (asked : Asked) : Type 0 where
  pub day : FindsDay values (codes "DAY") asked.day
  pub policy : values (codes "POLICY") ≡ Some asked.policy.now
  pub caller : values (codes "CALLER") ≡ Some asked.caller.now
  pub action : values (codes "ACTION") ≡ Some (action_text asked.action)
  pub collection : FindsText values (codes "COLLECTION") (λ text. IsNameOrNone text asked.collection)
  pub class : FindsText values (codes "CLASS") (λ text. IsNameOrNone text asked.class)

-- what `serve` is asked
pub record IsServing (values : Text → Option Text) (port count : ℕ) (store : Text) (day : Date) : Type 0 where
  pub at_port : FindsText values (codes "P") (λ text. IsPort text port)
  pub at_count : FindsText values (codes "N") (λ text. IsCount text count)
  pub at_store : values (codes "STORE") ≡ Some store
  pub at_day : FindsText values (codes "DAY") (λ text. IsDayText text day)

-- ---- lines

-- the subcommand that a line is of
abbrev pub subcommand_of : Line → Subcommand
subcommand_of (lines.Check file) = Check
subcommand_of (lines.Pack folder file) = Pack
subcommand_of (lines.Unpack file folder) = Unpack
subcommand_of (lines.Explain asked) = Explain
subcommand_of (lines.Policy store policy) = Policy
subcommand_of (lines.Ask store day) = Ask
subcommand_of (lines.Replay policy store) = Replay
subcommand_of (lines.Serve port count store day) = Serve

-- these are the values of the line
abbrev pub HasValues : (Text → Option Text) → Line → Type 0
HasValues values (lines.Check file) = values (codes "FILE") ≡ Some file.now
HasValues values (lines.Pack folder file) = (values (codes "DIR") ≡ Some folder.now) × (values (codes "FILE") ≡ Some file.now)
HasValues values (lines.Unpack file folder) = (values (codes "FILE") ≡ Some file.now) × (values (codes "DIR") ≡ Some folder.now)
HasValues values (lines.Explain asked) = IsQuestion values asked
HasValues values (lines.Policy store policy) = (values (codes "STORE") ≡ Some store.now) × (values (codes "POLICY") ≡ Some policy.now)
HasValues values (lines.Ask store day) = (values (codes "STORE") ≡ Some store.now) × FindsText values (codes "DAY") (λ text. IsDayText text day)
HasValues values (lines.Replay policy store) = (values (codes "POLICY") ≡ option_map (λ file. file.now) policy) × (values (codes "STORE") ≡ Some store.now)
HasValues values (lines.Serve port count store day) = IsServing values port count store.now day

-- ---- what is read

-- the first word names this subcommand
abbrev pub Names : List Text → Subcommand → Type 0
Names words subcommand = slice_get words 0 ≡ Some (name_text subcommand)

-- the words ask for what the line says: the first names its subcommand, clap takes them, and finds its values
pub record Asks (words : List Text) (line : Line) : Type 0 where
  pub first : Names words (subcommand_of line)
  pub taken : fault_of (command_of_subcommand (subcommand_of line)) words ≡ []
  pub values : HasValues (values_for (subcommand_of line) words) line

-- the words ask for nothing that a line says
abbrev pub AskNothing : List Text → Type 0
AskNothing words = (line : Line) → Asks words line → ⊥

-- ---- plain words

-- the option that names a day, where there is one, before these words
abbrev pub with_day : Option Date → List Text → List Text
with_day None words = words
with_day (Some day) words = codes "--day" ∷ day_text day ∷ words

-- the words that are written for a line
abbrev pub words_of : Line → List Text
words_of (lines.Check file) = codes "check" ∷ file.now ∷ []
words_of (lines.Pack folder file) = codes "pack" ∷ folder.now ∷ file.now ∷ []
words_of (lines.Unpack file folder) = codes "unpack" ∷ file.now ∷ folder.now ∷ []
words_of (lines.Explain asked) =
    codes "explain" ∷ with_day asked.day (asked.policy.now ∷ asked.caller.now ∷ action_text asked.action ∷ name_word asked.collection ∷ name_word asked.class ∷ [])
words_of (lines.Policy store policy) = codes "policy" ∷ store.now ∷ policy.now ∷ []
words_of (lines.Ask store day) = codes "ask" ∷ store.now ∷ day_text day ∷ []
words_of (lines.Replay None store) = codes "replay" ∷ store.now ∷ []
words_of (lines.Replay (Some policy) store) = codes "replay" ∷ codes "--policy" ∷ policy.now ∷ store.now ∷ []
words_of (lines.Serve port count store day) =
    codes "serve" ∷ codes "--port" ∷ decimal port ∷ codes "--count" ∷ decimal count ∷ store.now ∷ day_text day ∷ []

-- the word is `-`, or doesn't begin with `-`
abbrev pub IsPlainWord : Text → Type 0
IsPlainWord word = (word ≡ codes "-") ⊎ (slice_get word 0 ≡ Some 45 → ⊥)

-- the question can be written in plain words
pub record IsPlainQuestion (asked : Asked) : Type 0 where
  pub day : IfSome asked.day IsDay
  pub policy : IsPlainWord asked.policy.now
  pub caller : IsPlainWord asked.caller.now
  pub collection : IsPlainWord (name_word asked.collection) × IsWritable asked.collection
  pub class : IsPlainWord (name_word asked.class) × IsWritable asked.class

-- so can the line: its texts are such words, its day is a day, and its numbers are in range
abbrev pub IsPlainLine : Line → Type 0
IsPlainLine (lines.Check file) = IsPlainWord file.now
IsPlainLine (lines.Pack folder file) = IsPlainWord folder.now × IsPlainWord file.now
IsPlainLine (lines.Unpack file folder) = IsPlainWord file.now × IsPlainWord folder.now
IsPlainLine (lines.Explain asked) = IsPlainQuestion asked
IsPlainLine (lines.Policy store policy) = IsPlainWord store.now × IsPlainWord policy.now
IsPlainLine (lines.Ask store day) = IsPlainWord store.now × IsDay day
IsPlainLine (lines.Replay None store) = IsPlainWord store.now
IsPlainLine (lines.Replay (Some policy) store) = IsPlainWord policy.now × IsPlainWord store.now
IsPlainLine (lines.Serve port count store day) =
    (port ≤ max_port) × (1 ≤ count) × (count ≤ max_count) × IsPlainWord store.now × IsDay day
