use Rattle.office_queries.proofs.Lemmas.{arith, rules, ◌≡◌, ◌++◌, [], length, get_or, ap, sym, ◌∙◌, append-nil, cons_option, turn_as, turn_failed, turn_then, disposable_told, role_name, none_told, told_next, told_of_all}
use Rattle.office_core.specs.declared.action.Action.TheVariants as acts
use Rattle.office_queries.proofs.due_lists.allowed_among.Goals.{in-Some+in_ok-push, in_default}
use Rattle.office_queries.proofs.due_lists.allowed_among.Goals as goal

pub loop-row-init : goal.loop-row-init
loop-row-init g c = none_told acts.Dispose disposable_told (role_name c.args.asker.now) c.args.asker.now.day c.in_ok-allowances.ensures.inside c.in_ok-allowances.ensures.reads c.new-numbers.result.items c.new-numbers.ensures.items

pub loop-row-preserved : goal.loop-row-preserved
loop-row-preserved g c =
    let a = c.args in
    let item : c.row-item.result ≡ get_or a.rows.now c.loop-row.row-index c.row-item.result = search rules in
    let told = c.loop-row.numbers.items in
    told_next acts.Dispose disposable_told (role_name a.asker.now) a.asker.now.day c.allowed_number.new.allowances a.rows.now c.loop-row.row-index c.row-item.result c.loop-row-test.true item told _ (elim c.match-branch-3.branch [
      | in-Some+in_ok-push w ↦ ap (λ v. v.items) w.numbers-is ∙ w.in_ok-push.ensures.items ∙ ap (λ o. told ++ cons_option o []) (sym w.in-Some.is)
      | in_default w ↦ ap (λ v. v.items) w.numbers-is ∙ sym (append-nil told) ∙ ap (λ o. told ++ cons_option o []) (sym w.in_default.is)
    ]) c.loop-row.invariant c.in_ok-number.ensures.inside c.in_ok-number.ensures.reads

pub returns-in_err-number-clause-inside : goal.returns-in_err-number-clause-inside
returns-in_err-number-clause-inside g c = turn_failed c.loop-row.invariant.inside c.allowed_number.ensures.inside _ (search rules) (search rules)

pub returns-in_err-push-clause-inside : goal.returns-in_err-push-clause-inside
returns-in_err-push-clause-inside g c = turn_as (turn_then c.loop-row.invariant.inside c.in_ok-number.ensures.inside) _ (search rules)

pub returns-clause-reads : goal.returns-clause-reads
returns-clause-reads g c =
    let a = c.args in
    let finished : c.loop-row.row-index ≡ length a.rows.now = omega (arith, c.loop-row-test.false, c.loop-row.auto.row-index-end) in
    told_of_all acts.Dispose disposable_told (role_name a.asker.now) a.asker.now.day a.rows.now c.loop-row.row-index finished c.loop-row.numbers.items c.loop-row.invariant
