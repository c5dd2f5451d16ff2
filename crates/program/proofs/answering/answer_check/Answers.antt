use Rattle.std.proofs.Common.{rules}
use Rattle.program.proofs.AnswerLemmas.{given_of}
use Rattle.program.proofs.answering.answer_check.Goals as goal

pub returns-clause-judged : goal.returns-clause-judged
returns-clause-judged g c = record {
  bytes = c.in_ok-judge-2.ensures.says.0;
  says = c.in_ok-judge-2.ensures.says.2;
  taken = search rules;
  given = search rules;
}

pub returns-clause-file : goal.returns-clause-file
returns-clause-file g c other = (c.in_ok-form.form, given_of _ _ c.judge-2.result _ c.in_ok-judge-2.was c.judge-2.ensures.given)
