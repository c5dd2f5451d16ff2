-- How a command that takes arguments is built.
use Rattle.std.specs.Prelude.{◌≡◌, ◌&&◌, ◌==◌, [], ◌∷◌, List, Bool, Some, true, false, not, length, codes, is_some, map, option_map, if◌then◌else◌}
use Rattle.std.specs.List.{All, list_any}
use Rattle.std.specs.Str.{bytes_eq}
use Rattle.clap.specs.Words.{AddsArg, AddsInTurn, App, IsPlainArg, Rule, Text, app_of, args_of, first_value, found_of, groups_of, new_app, new_rule, rule_of}
use Rattle.clap.specs.Built.{TakesValue}
use Rattle.clap.specs.declared.builder.ArgAction.TheVariants.{Set}
use Rattle.clap.specs.declared.builder.arg.Arg.{Arg}
use Rattle.clap.specs.declared.builder.command.Command.{Command}
use Rattle.clap.specs.declared.builder.command.Command.TheViews.{out-Command}
use Rattle.clap.specs.declared.parser.matches.ArgMatches.{ArgMatches}
use Rattle.command_line.specs.Lines.{HasValues, command_of, subcommand_rules, subcommand_of}
use Rattle.command_line.specs.declared.line.Line.{Line}
use Rattle.command_line.specs.declared.subcommand.Subcommand.{Subcommand}
use Rattle.command_line.specs.declared.words.Argument.{Argument}
use Rattle.command_line.specs.declared.words.Usage.{Usage}

-- ---- what is asked of clap

-- how an argument is read: as a word in its place, or after its option
abbrev pub rule_for : Argument → Rule
rule_for argument =
    record (new_rule argument.name.now) { long = option_map (λ option. option.now) argument.option; required = argument.is_required; action = Some Set }

abbrev pub rules_for : List Argument → List Rule
rules_for = map rule_for

-- the command that reads the words of a subcommand
abbrev pub command_for : Usage → App
command_for usage = command_of usage.name.now (rules_for usage.arguments.now)

-- the names of the arguments that have to be given
abbrev pub needed_names : List Rule → List Text
needed_names [] = []
needed_names (rule ∷ rules) = if rule.required then rule.id ∷ needed_names rules else needed_names rules

-- ---- how it is built

-- the argument is read by this rule, and has a value where it has to be given
pub record IsReadBy (wanted : Rule) (arg : Arg) : Type 0 where
  pub id : arg.id.now ≡ wanted.id
  pub rule : rule_of arg ≡ wanted
  pub plain : IsPlainArg arg
  pub own : arg.global ≡ false
  pub takes : wanted.required ≡ true → TakesValue arg

-- the arguments are read by these rules, in this order
abbrev pub AreReadBy : List Rule → List Arg → Type 0
AreReadBy [] [] = Unit {0}
AreReadBy [] (arg ∷ args) = ⊥
AreReadBy (rule ∷ rules) [] = ⊥
AreReadBy (rule ∷ rules) (arg ∷ args) = IsReadBy rule arg × AreReadBy rules args

-- the command is a new one, to which arguments with these rules were added in turn
pub record TakesArguments (name : Text) (rules : List Rule) (command : Command) : Type 0 where
  pub start : Command
  pub args : List Arg
  pub app : app_of start ≡ new_app name
  pub no_args : args_of start ≡ []
  pub no_groups : groups_of start ≡ []
  pub no_globals : (out-Command start).has_globals ≡ false
  pub negates : (out-Command start).subcommand_negates_reqs ≡ false
  pub read : AreReadBy rules args
  pub added : AddsInTurn AddsArg start args command

-- names that clap doesn't give to flags of its own
abbrev pub is_own_name : Text → Bool
is_own_name name = not (length name == 0) && not (bytes_eq name (codes "help")) && not (bytes_eq name (codes "version"))

-- such names, none of which occurs twice
abbrev pub are_names : List Text → Bool
are_names [] = true
are_names (name ∷ names) = is_own_name name && not (list_any (bytes_eq name) names) && are_names names

-- the names of the arguments
abbrev pub names_of : List Rule → List Text
names_of = map (λ rule. rule.id)

-- ---- what it finds

-- clap found a value under each name that the subcommand requires
abbrev pub HasNeeded : Subcommand → ArgMatches → Type 0
HasNeeded subcommand matches = All (λ (wanted : Text). is_some (first_value (found_of matches) wanted) ≡ true) (needed_names (subcommand_rules subcommand))

-- a line of the subcommand, and the values that clap found are its
abbrev pub IsLineOf : Subcommand → ArgMatches → Line → Type 0
IsLineOf subcommand matches line = (subcommand_of line ≡ subcommand) × HasValues (first_value (found_of matches)) line

-- the values that clap found make no line of the subcommand
abbrev pub MakesNoLine : Subcommand → ArgMatches → Type 0
MakesNoLine subcommand matches = (line : Line) → IsLineOf subcommand matches line → ⊥
