use Rattle.command_line.proofs.Common.{texts, command_for}
use Rattle.command_line.proofs.LineLemmas.{lines_asked, none_made, refused_by_clap, same_command}
use Rattle.command_line.proofs.reading.read_named.Goals as goal

pub returns-in-Ok-clause-taken : goal.returns-in-Ok-clause-taken
returns-in-Ok-clause-taken c =
    lines_asked (texts c.args.words.now) c.args.subcommand (command_for c.usage.result.now) c.in-Ok.matches c.line_of.result
    (same_command c.args.subcommand c.usage.result.now c.usage.ensures.name c.usage.ensures.rules) c.requires c.in-Ok.ensures.faults c.in-Ok.ensures.values
    c.line_of.ensures.line

pub returns-in-Ok-clause-refused : goal.returns-in-Ok-clause-refused
returns-in-Ok-clause-refused c =
    none_made (texts c.args.words.now) c.args.subcommand (command_for c.usage.result.now) c.in-Ok.matches c.line_of.result
    (same_command c.args.subcommand c.usage.result.now c.usage.ensures.name c.usage.ensures.rules) c.requires c.in-Ok.ensures.values c.line_of.ensures.refused

pub returns-in-Err-clause-refused : goal.returns-in-Err-clause-refused
returns-in-Err-clause-refused c =
    refused_by_clap (texts c.args.words.now) c.args.subcommand (command_for c.usage.result.now) c.in-Err.error c.clap_fault.result
    (same_command c.args.subcommand c.usage.result.now c.usage.ensures.name c.usage.ensures.rules) c.requires c.in-Err.ensures.faults c.clap_fault.ensures.memory
