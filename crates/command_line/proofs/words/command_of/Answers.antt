use Rattle.command_line.proofs.Common.{◌∙◌, ap, AddsArg, AddsInTurn, app_of_fields, Command, TakesArguments, rules_for}
use Rattle.std.proofs.lemmas.Result.{IfOk-weaker}
use Rattle.clap.specs.declared.builder.command.Command.TheOpen.{Command-F}
use Rattle.command_line.proofs.words.command_of.Goals as goal

-- the help text and the name in usage change nothing that clap reads of a command
pub returns : goal.returns
returns c =
    let name = c.in_ok-bin_name.ensures.0 in
    IfOk-weaker c.args-2.result (AddsInTurn AddsArg c.in_ok-bin_name.field-0 c.in_ok-args.args.items) (TakesArguments c.args.usage.now.name.now (rules_for c.args.usage.now.arguments.now)) (λ command chain. record {
      start = c.in_ok-bin_name.field-0;
      args = c.in_ok-args.args.items;
      app = ap app_of_fields name ∙ ap app_of_fields c.about.ensures ∙ c.new.ensures.app;
      no_args = ap (λ (f : Command-F Command). f.args.items) name ∙ ap (λ (f : Command-F Command). f.args.items) c.about.ensures ∙ c.new.ensures.empty.0;
      no_groups = ap (λ (f : Command-F Command). f.groups.items) name ∙ ap (λ (f : Command-F Command). f.groups.items) c.about.ensures ∙ c.new.ensures.empty.1;
      no_globals = ap (λ (f : Command-F Command). f.has_globals) name ∙ ap (λ (f : Command-F Command). f.has_globals) c.about.ensures ∙ c.new.ensures.local;
      negates = ap (λ (f : Command-F Command). f.subcommand_negates_reqs) name ∙ ap (λ (f : Command-F Command). f.subcommand_negates_reqs) c.about.ensures ∙ c.new.ensures.negates;
      read = c.in_ok-args.ensures;
      added = chain;
    }) c.args-2.ensures
