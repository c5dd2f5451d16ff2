use Rattle.commands.proofs.Common.{inl, inr, refl}
use Rattle.commands.proofs.PolicyLemmas.{read_is_spelled, refused_is_first}
use Rattle.commands.proofs.policy_file.policy_of_bytes.Goals as goal

pub returns-in-Ok-clause-spells : goal.returns-in-Ok-clause-spells
returns-in-Ok-clause-spells c =
    read_is_spelled c.args.bytes.now c.in-Ok.text.now c.read_policy.result c.in-Ok.ensures.cases.0 c.in-Ok.ensures.cases.1 c.read_policy.ensures.exact

pub returns-in-Ok-clause-refused : goal.returns-in-Ok-clause-refused
returns-in-Ok-clause-refused c =
    refused_is_first c.args.bytes.now c.in-Ok.text.now c.read_policy.result c.in-Ok.ensures.cases.0 c.in-Ok.ensures.cases.1 c.read_policy.ensures.exact

pub returns-in-Err-clause-refused : goal.returns-in-Err-clause-refused
returns-in-Err-clause-refused c = inr (inl (c.in-Err.ensures.cases.0, refl))
