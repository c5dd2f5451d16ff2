use Rattle.command_line.proofs.Common.{sym}
use Rattle.command_line.specs.declared.version.TheConstants.{VERSION}
use Rattle.command_line.proofs.LineLemmas.{named_usage}
use Rattle.command_line.proofs.reading.usage_for_word.Goals as goal

pub returns-in-Ok : goal.returns-in-Ok
returns-in-Ok c = named_usage VERSION.now c.args.word.now _ (sym c.if-asks_for_help.ensures) c.in-Ok.ensures.ok
