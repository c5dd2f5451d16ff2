use Rattle.commands.proofs.Lemmas.{inl, policy_is_explained}
use Rattle.commands.proofs.explain.spelled_outcome.Goals as goal

-- Where a day is named, what is said of the policy on that day explains the bytes.
pub returns-in-Some : goal.returns-in-Some
returns-in-Some c =
    policy_is_explained c.args.bytes.now c.args.asked.now c.args.policy.now c.in-Some.day c.policy_outcome.result c.requires (c.policy_outcome.ensures.day, inl c.in-Some.is)
    c.policy_outcome.ensures.says
