use Rattle.office_queries.proofs.Common.{rules, ◌≡◌, refl, ap, ◌∙◌, Some, option_map, sym, visit_on, read_by}
use Rattle.office_core.specs.declared.answer.Answer.TheVariants as answers
use Rattle.office_core.specs.declared.request.Request.TheVariants as requests
use Rattle.office_queries.proofs.due_lists.due_list.Goals as goal

pub returns-clause-serves : goal.returns-clause-serves
returns-clause-serves g c clean office =
    let a = c.args in
    let read = c.in_ok-numbers.ensures.reads clean office in
    let given : c.of.result ≡ c.in_ok-numbers.numbers.items = search rules in
    (read.0, read_by (visit_on a.day a.caller.now) requests.DueList (answers.DueList a.day c.of.result) refl (λ k. refl) office read.0 refl (ap (option_map (answers.DueList a.day)) (read.1 ∙ ap Some (sym given))) refl)
