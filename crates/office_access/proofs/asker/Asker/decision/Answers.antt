use Rattle.office_access.proofs.Lemmas.{option_copied, rules, w32, w64, option_map, ap, sym, ◌∙◌, ◌≡◌, Some, None, SFits, to_z-of_z, state, tables_of, epoch_day, Store, if_any, decision_by, inside_as, only_that, or_empty, role_name, some_read}
use Rattle.office_core.specs.Actions.{action_text}
use Rattle.office_rows.specs.Matching.{matching_rule}
use Rattle.office_access.proofs.asker.Asker.decision.Goals as goal

pub returns-in_ok-decision_in-in-Some-clause-reads : goal.returns-in_ok-decision_in-in-Some-clause-reads
returns-in_ok-decision_in-in-Some-clause-reads g c clean office =
    let a = c.args in
    let old = state g.S.Store a.tx.now.conn.now in
    let small : SFits w32 c.number.result = search rules in
    let fits : SFits w64 c.number.result = search rules in
    let found = rw (to_z-of_z w32 c.number.result small, to_z-of_z w64 c.number.result fits, c.number.ensures.value) at (c.in_ok-found.ensures.found clean office) in
    let rule : Some c.in-Some.row ≡ matching_rule (role_name a.self.now) (action_text a.action) (or_empty (option_copied a.collection)) (or_empty (option_copied a.class)) (epoch_day a.self.now.day) (tables_of old.now).rules = search (rules, found) in
    let told : decision_by c.in-Some.row ≡ Some c.in_ok-decision_in-in-Some.field-0 = some_read (decision_by c.in-Some.row) Store c.in_ok-decision_in-in-Some.field-0 (search rules) in
    (c.in_ok-found.ensures.same clean office, ap (if_any decision_by) (sym rule) ∙ ap (option_map Some) told)

pub returns-in-None-clause-reads : goal.returns-in-None-clause-reads
returns-in-None-clause-reads g c clean office =
    let a = c.args in
    let old = state g.S.Store a.tx.now.conn.now in
    let small : SFits w32 c.number.result = search rules in
    let fits : SFits w64 c.number.result = search rules in
    let found = rw (to_z-of_z w32 c.number.result small, to_z-of_z w64 c.number.result fits, c.number.ensures.value) at (c.in_ok-found.ensures.found clean office) in
    let rule : None ≡ matching_rule (role_name a.self.now) (action_text a.action) (or_empty (option_copied a.collection)) (or_empty (option_copied a.class)) (epoch_day a.self.now.day) (tables_of old.now).rules = search (rules, found) in
    (c.in_ok-found.ensures.same clean office, ap (if_any decision_by) (sym rule))

pub returns-in_err-decision_in-in-Some-clause-inside : goal.returns-in_err-decision_in-in-Some-clause-inside
returns-in_err-decision_in-in-Some-clause-inside g c =
    let store = only_that (decision_by c.in-Some.row) Store c.decision_in.result c.decision_in.ensures in
    inside_as c.in_ok-found.ensures.inside _ (search (rules, store))
