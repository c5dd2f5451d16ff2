use Rattle.program.proofs.AnswerLemmas.{given_of}
use Rattle.program.proofs.answering.answer_explain.Goals as goal

pub returns-clause-file : goal.returns-clause-file
returns-clause-file g c = (c.in_ok-policy.policy, given_of _ _ c.explain_policy.result _ c.in_ok-explain_policy.was c.explain_policy.ensures.given)
