use Rattle.office_tables.proofs.Lemmas.{◌≡◌, rules, w64, string_bytes, to_z-of_z, on_ok, adds_rule, add_rule_same}
use mir.Val.{SFits}
use Rattle.office_tables.proofs.policy.add_rule.Goals as goal

pub returns-clause-becomes : goal.returns-clause-becomes
returns-clause-becomes g c clean office =
    let row = c.args.rule.now in
    let inside = c.rule.inside in
    let place : inside.place ≡ row.place = search rules in
    let effect : inside.effect ≡ row.effect = search rules in
    let role : string_bytes inside.role ≡ row.role = search rules in
    let action : string_bytes inside.action ≡ row.action = search rules in
    let collection : string_bytes inside.collection ≡ row.collection = search rules in
    let class : string_bytes inside.class ≡ row.class = search rules in
    let first : inside.first ≡ row.first = search rules in
    let last : inside.last ≡ row.last = search rules in
    let place_fits : SFits w64 inside.place = search rules in
    let effect_fits : SFits w64 inside.effect = search rules in
    let first_fits : SFits w64 inside.first = search rules in
    let last_fits : SFits w64 inside.last = search rules in
    let ran = rw (c.params-to_sql.ensures, c.params-to_sql-2.ensures, c.params-to_sql-3.ensures, c.params-to_sql-4.ensures, c.params-to_sql-5.ensures, c.params-to_sql-6.ensures, c.params-to_sql-7.ensures, c.params-to_sql-8.ensures, c.deref-role.ensures, c.deref-action.ensures, c.deref-collection.ensures, c.deref-class.ensures, to_z-of_z w64 inside.place place_fits, to_z-of_z w64 inside.effect effect_fits, to_z-of_z w64 inside.first first_fits, to_z-of_z w64 inside.last last_fits, place, effect, role, action, collection, class, first, last) at (c.change.ensures.ran clean) in
    on_ok c.change.result (λ count h. adds_rule _ _ row count office h) ran

pub returns-clause-contents : goal.returns-clause-contents
returns-clause-contents g c clean office = on_ok c.change.result (λ count h. add_rule_same _ _ _ count office h) (c.change.ensures.ran clean)
