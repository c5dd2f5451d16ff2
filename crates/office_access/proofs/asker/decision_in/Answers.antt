use Rattle.office_access.proofs.Lemmas.{rules, ◌≡◌, ◌≤◌, ◌&&◌, pos, true, Some, None, Err, sym, ap, ok_or, ◌∙◌, and_parts, max_rules, Decision, Store, effect_of, is_between, is_rule, decision_is, place_is, rule_is, some_read, is_inside, no_effect, no_rule, only_that}
use Rattle.office_access.proofs.asker.decision_in.Goals as goal

pub returns-in_ok-effect_of-in-Ok : goal.returns-in_ok-effect_of-in-Ok
returns-in_ok-effect_of-in-Ok c =
    let row = c.args.row.now in
    let decision : Decision = record { rule = c.in-Ok.rule; effect = c.in_ok-effect_of-in-Ok.field-0 } in
    let place : pos c.in-Ok.rule ≡ row.place = search rules in
    let from_one : 1 ≤ c.in-Ok.rule = search rules in
    let among_few : c.in-Ok.rule ≤ max_rules = search rules in
    let effect : effect_of row.effect ≡ Some c.in_ok-effect_of-in-Ok.field-0 = some_read (effect_of row.effect) Store c.in_ok-effect_of-in-Ok.field-0 (search rules) in
    let yes : c.is_rule.result ≡ true = search rules in
    let is : is_rule row ≡ true = sym (rule_is row) ∙ (λ i. place_is row.place c.in-Ok.rule place from_one among_few i && (sym c.is_rule.ensures ∙ yes) i) in
    ap (λ o. ok_or o Store) (sym (decision_is row decision is place effect))

pub returns-in_err-effect_of-in-Ok : goal.returns-in_err-effect_of-in-Ok
returns-in_err-effect_of-in-Ok c =
    let none : effect_of c.args.row.now.effect ≡ None = search rules in
    let store = only_that (effect_of c.args.row.now.effect) Store c.effect_of.result c.effect_of.ensures in
    let failed : c.from_residual.result ≡ Err Store = search (rules, store) in
    failed ∙ ap (λ o. ok_or o Store) (sym (no_effect c.args.row.now none))

pub returns-in_default : goal.returns-in_default
returns-in_default c =
    let row = c.args.row.now in
    ap (λ o. ok_or o Store) (sym (no_rule row (λ e.
    let both = and_parts (is_between (pos 1) (pos max_rules) row.place) _ (rule_is row ∙ e) in
    let place = is_inside (pos 1) (pos max_rules) row.place both.0 in
    let yes : c.is_rule.result ≡ true = c.is_rule.ensures ∙ both.1 in
    absurd (search (rules, place, yes)))))
