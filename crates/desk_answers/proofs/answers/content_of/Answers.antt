use Rattle.desk_answers.proofs.Common.{rules, ◌≡◌, view, content_of, json}
use Rattle.desk_answers.proofs.Walk.{written_body}
use Rattle.desk_answers.proofs.answers.content_of.Goals as goal

pub returns-clause-body : goal.returns-clause-body
returns-clause-body c =
    let is : json (view c.in_ok-value.value) ≡ content_of c.args.answer.now = search rules in
    written_body c.args.answer.now (view c.in_ok-value.value) _ is c.in_ok-text_of.ensures
