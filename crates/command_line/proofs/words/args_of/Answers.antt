use Rattle.command_line.proofs.Common.{◌+◌, ◌≡◌, ◌∙◌, ℕ, List, length, take, sym, subst, arith, ap, Arg, AreReadBy, rules_for}
use Rattle.std.proofs.Math.Seq.{take-length}
use Rattle.command_line.proofs.CommandBuildingLemmas.{rules_so_far}
use Rattle.command_line.proofs.words.args_of.Goals as goal

pub loop-argument-preserved : goal.loop-argument-preserved
loop-argument-preserved c =
    subst (λ (args : List Arg). AreReadBy (rules_for (take (c.loop-argument.argument-index + 1) c.args.arguments.now)) args) (sym c.in_ok-push.ensures.items)
    (rules_so_far c.args.arguments.now c.loop-argument.argument-index _ c.loop-argument.args.items c.arg_of.result (omega arith) c.loop-argument.invariant c.arg_of.ensures)

pub returns : goal.returns
returns c =
    let end : take c.loop-argument.argument-index c.args.arguments.now ≡ c.args.arguments.now =
    ap (λ (n : ℕ). take n c.args.arguments.now) (let same : c.loop-argument.argument-index ≡ length c.args.arguments.now = omega arith in same)
    ∙ take-length c.args.arguments.now in
    subst (λ arguments. AreReadBy (rules_for arguments) c.loop-argument.args.items) end c.loop-argument.invariant
