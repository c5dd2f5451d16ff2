-- The names that several proofs of this crate cite, passed on from one place. Declares nothing.
pub use Rattle.bag_text.specs.Text.{texts}
pub use Rattle.clap.specs.Faults.{check_fault, entered_fault, settle_fault, step_fault}
unfoldable pub use Rattle.clap.specs.Faults.{defaults_fault, walk_fault}
pub use Rattle.clap.specs.Kinds.{HasKind, IsAmong, Kinds, or_else}
pub use Rattle.clap.specs.Simple.{app_of_fields, entered, Shape}
pub use Rattle.clap.specs.Walk.{arg_by_id, arg_by_index, finished, Held, idle, nothing_held, option, option_word, pushed, settled, to_positional, value, Walk, walk, walk_from}
unfoldable pub use Rattle.clap.specs.Walk.{walked}
pub use Rattle.clap.specs.Words.{AddsArg, AddsInTurn, App, app_of, built, FailsBy, fault_of, first_of, first_value, found_of, HasMatchesOf, is_simple, is_simple_and_free, IsParsedFrom, kind_of, matches_of, Rule, Text, with_rule}
pub use Rattle.clap.specs.declared.builder.arg.Arg.{Arg}
pub use Rattle.clap.specs.declared.builder.command.Command.{Command}
pub use Rattle.clap.specs.declared.error.Error.{Error}
pub use Rattle.clap.specs.declared.parser.matches.ArgMatches.{ArgMatches}
pub use Rattle.command_line.specs.CommandBuilding.{are_names, AreReadBy, command_for, is_own_name, IsLineOf, IsReadBy, MakesNoLine, names_of, needed_names, rule_for, rules_for, TakesArguments}
pub use Rattle.command_line.specs.Lines.{AskNothing, Asks, command_of, FindsDay, FindsText, HasValues, IsDayText, IsNameOrNone, IsPlainLine, IsPlainQuestion, IsPlainWord, IsQuestion, name_text, name_word, Names, subcommand_of, subcommand_rules, value_under, values_for, with_day, words_of, WritesNumber}
unfoldable pub use Rattle.command_line.specs.Lines.{command_of_subcommand}
pub use Rattle.command_line.specs.declared.line.Line.{Line}
pub use Rattle.command_line.specs.declared.subcommand.Subcommand.{Subcommand}
pub use Rattle.command_line.specs.declared.subcommand.Subcommand.TheVariants.{Ask, Check, Explain, Pack, Policy, Replay, Serve, Unpack}
pub use Rattle.command_line.specs.declared.use_fault.UseFault.{UseFault}
pub use Rattle.command_line.specs.declared.use_fault.UseFault.TheVariants.{Memory}
pub use Rattle.jiff.specs.Types.{Date}
pub use Rattle.office_core.specs.Days.{day_text, IsDay}
pub use Rattle.std.proofs.Common.{◌+◌, ◌++◌, ◌<◌, ◌==◌, [], ◌^◌, ap, ap₂, arith, Bool, bytes_eq, codes, decimal, Err, false, fold, get_or, IfErr, IfOk, IfSome, if◌then◌else◌, inl, inr, is_some, length, List, None, Ok, Option, refl, Result, slice_get, Some, subst, suc, sym, take, true, unwrap_or, zero, ℕ, ◌∙◌, ◌∷◌, ◌≡◌, ◌⊎◌}
pub use Rattle.std.proofs.lemmas.Bool.{and_parts, eqb-true, false≢true, not-true}
pub use Rattle.std.specs.List.{All, AllByRecursion, list_any}
pub use Rattle.std.specs.Str.Parse.{digits_value, IsNumeral}
