use Rattle.commands.proofs.Lemmas.{◌∙◌, inr, sym, missing_day_is_explained, policy_is_explained}
use Rattle.commands.proofs.explain.outcome_without_day.Goals as goal

-- No rule may have days: what is said of the policy on the first day explains the bytes.
pub returns : goal.returns
returns c =
    policy_is_explained c.args.bytes.now c.args.asked.now c.args.policy.now c.first.result c.policy_outcome.result c.requires.text
    (c.policy_outcome.ensures.day, inr (sym (c.in_ok-may_be_dated.ensures c.requires.text.utf8) ∙ c.if-branch.false)) c.policy_outcome.ensures.says

-- A rule may have days: that a day is missing explains the bytes.
pub returns-then-branch : goal.returns-then-branch
returns-then-branch c =
    missing_day_is_explained c.args.bytes.now c.args.asked.now c.args.policy.now c.undated_outcome.result c.requires.text
    (c.requires.no_day, sym (c.in_ok-may_be_dated.ensures c.requires.text.utf8) ∙ c.if-branch.true) c.undated_outcome.ensures
