use Rattle.command_line.proofs.Common.{take, AreReadBy, rules_for}
use Rattle.command_line.proofs.words.args_of.Given as goal

abbrev pub invariant-loop-argument : goal.invariant-loop-argument
invariant-loop-argument l = AreReadBy (rules_for (take l.argument-index l.arguments)) l.args.items
